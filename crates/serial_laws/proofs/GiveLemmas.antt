-- Blocks that left the rings leave a session's parts as they were.
--     Passed      what a recorder had before and has behind
--     many-rings, passed      there are as many rings as recorders, and each has both
--     RingStays-gave      each ring stays the same, with a bound that did not fall
--     IsSound-gave      the parts belong together as before
--     DisksTell-gave      what the ends of the disks' rings know stays
--     AreEmpty-gave      and rings that gave up as many blocks as they may have are empty
use Rattle.std.proofs.Common.{◌≡◌, ℕ, ◌*◌, ◌<◌, ◌≤◌, false, length, slice_get, Some, sym, ◌∙◌, ap, subst, arith}
use Rattle.std.proofs.lemmas.List.{length-map}
use Rattle.std.proofs.lemmas.Option.{same_Some, slice_get_within}
use Rattle.session_model.specs.Scripts.{Script}
use Rattle.driver_words.specs.Rings.{Getting, IsPair, Sending, items_of}
use Rattle.driver_words.specs.Tapes.{HasSamples, Tape}
use Rattle.recorder_files.specs.disk_recorder.specs.Recordings.{MayWrite}
use Rattle.session_model.specs.Rings.{samples_of_blocks}
use Rattle.run_laws.specs.driver_laws.specs.Cycling.{RingStays}
use Rattle.run_laws.specs.driver_laws.specs.Drivers.{HasOwnRings, IsOwnRing, channels_on, frames_run}
use Rattle.recorder_files.specs.Recorders.{GivesUp, Reel}
use Rattle.run_laws.specs.Runs.{HasFiles}
use Rattle.run_laws.specs.Sessions.{IsOne, Session}
use Rattle.run_laws.proofs.PlaceLemmas.{mapped_there, some_at}
use Rattle.disk_runs.specs.Rests.{DisksTell}
use Rattle.disk_runs.proofs.AloneLemmas.{DisksTell-alone}
use Rattle.serial_laws.specs.Steps.{AreEmpty, GiveUp, IsReel, IsSound}
use Rattle.serial_laws.proofs.EachLemmas.{All-places, at-place, map-places, map-places_is}
use Rattle.serial_laws.proofs.RingLemmas.{counted-blocks, empty-blocks, format-blocks, may-blocks, no_end-blocks, pair-blocks, samples-blocks, stays-blocks}

-- a recorder before and behind
pub record Passed (most : ℕ) (session after : Session) (recorder : ℕ) : Type 0 where
  pub reel : Reel
  pub reel_after : Reel
  pub before : IsReel session recorder reel
  pub behind : IsReel after recorder reel_after
  pub gives : GivesUp most reel reel_after

-- a recorder has its two ends, its file and its count
pub reel_at : (session : Session) (recorder : ℕ) → recorder < length session.driver.rings → recorder < length session.getting → recorder < length session.tapes → recorder < length session.counts
    → (reel : Reel) × IsReel session recorder reel
reel_at session recorder rings getting tapes counts =
    let ring = some_at session.driver.rings recorder rings in
    let got = some_at session.getting recorder getting in
    let tape = some_at session.tapes recorder tapes in
    let blocks = some_at session.counts recorder counts in
    (record { ring = ring.0; getting = got.0; tape = tape.0; blocks = blocks.0 }, record { ring = ring.1; getting = got.1; tape = tape.1; blocks = blocks.1 })

module _ (session : Session) (sound : IsSound session) where
  abbrev pub recorders : ℕ
  recorders = length session.script.header.recorders

  pub many-rings : length session.driver.rings ≡ recorders
  many-rings = sound.one.rings.recorders ∙ ap (λ (s : Script). length s.header.recorders) sound.one.driver_script

  pub many-tapes : length session.tapes ≡ recorders
  many-tapes = sym (length-map session.tapes (λ (tape : Tape). tape.format)) ∙ ap length sound.files.formats

  pub many-counts : length session.counts ≡ recorders
  many-counts = sym (ap length sound.files.counted) ∙ length-map session.getting (λ (got : Getting). length got.got) ∙ sound.one.recorder_ends

  module _ (most : ℕ) (after : Session) (give : GiveUp most session after) where
    pub passed : (recorder : ℕ) → recorder < recorders → Passed most session after recorder
    passed recorder low =
        let rings = many-rings in
        let getting : length session.getting ≡ recorders = sound.one.recorder_ends in
        let tapes = many-tapes in
        let counts = many-counts in
        let reel = reel_at session recorder (omega (arith, low, rings)) (omega (arith, low, getting)) (omega (arith, low, tapes)) (omega (arith, low, counts)) in
        let reel_after = reel_at after recorder (omega (arith, low, rings, give.rings)) (omega (arith, low, getting, give.getting)) (omega (arith, low, tapes, give.tapes)) (omega (arith, low, counts, give.counts)) in
        record { reel = reel.0; reel_after = reel_after.0; before = reel.1; behind = reel_after.1; gives = give.each recorder reel.0 reel_after.0 reel.1 reel_after.1 }

    ring-low : (recorder : ℕ) (ring : Sending) → slice_get after.driver.rings recorder ≡ Some ring → recorder < recorders
    ring-low recorder ring here =
        let low : recorder < length after.driver.rings = slice_get_within after.driver.rings recorder ring here in
        omega (arith, low, give.rings, many-rings)

    -- what holds of each ring behind
    each-ring : (P : ℕ → Sending → Type 0) → ((recorder : ℕ) (p : Passed most session after recorder) → P recorder p.reel_after.ring) → (recorder : ℕ) (ring : Sending) → slice_get after.driver.rings recorder ≡ Some ring → P recorder ring
    each-ring P holds recorder ring here =
        let p = passed recorder (ring-low recorder ring here) in
        subst (P recorder) (same_Some p.reel_after.ring ring (sym p.behind.ring ∙ here)) (holds recorder p)

    pub RingStays-gave : (recorder : ℕ) (ring : Sending) → slice_get after.driver.rings recorder ≡ Some ring → (old : Sending) × (slice_get session.driver.rings recorder ≡ Some old) × RingStays old ring
    RingStays-gave = each-ring (λ recorder ring. (old : Sending) × (slice_get session.driver.rings recorder ≡ Some old) × RingStays old ring)
        (λ recorder p. (p.reel.ring, p.before.ring, stays-blocks most p.reel p.reel_after p.gives))

    -- of each ring and its other end
    each-pair : (P : Sending → Getting → Type 0) → ((recorder : ℕ) (p : Passed most session after recorder) → P p.reel_after.ring p.reel_after.getting)
        → (recorder : ℕ) (ring : Sending) (got : Getting) → slice_get after.driver.rings recorder ≡ Some ring → slice_get after.getting recorder ≡ Some got → P ring got
    each-pair P holds recorder ring got here there =
        let p = passed recorder (ring-low recorder ring here) in
        subst (λ (r : Sending). P r got) (same_Some p.reel_after.ring ring (sym p.behind.ring ∙ here))
        (subst (P p.reel_after.ring) (same_Some p.reel_after.getting got (sym p.behind.getting ∙ there)) (holds recorder p))

    -- of each end that gets, and the file
    each-file : (P : Getting → Tape → Type 0) → ((recorder : ℕ) (p : Passed most session after recorder) → P p.reel_after.getting p.reel_after.tape)
        → (recorder : ℕ) (got : Getting) (tape : Tape) → slice_get after.getting recorder ≡ Some got → slice_get after.tapes recorder ≡ Some tape → P got tape
    each-file P holds recorder got tape here there =
        let low : recorder < length after.getting = slice_get_within after.getting recorder got here in
        let getting : length session.getting ≡ recorders = sound.one.recorder_ends in
        let p = passed recorder (omega (arith, low, give.getting, getting)) in
        subst (λ (g : Getting). P g tape) (same_Some p.reel_after.getting got (sym p.behind.getting ∙ here))
        (subst (P p.reel_after.getting) (same_Some p.reel_after.tape tape (sym p.behind.tape ∙ there)) (holds recorder p))

    rings-gave : HasOwnRings (record session.driver { rings = after.driver.rings })
    rings-gave = record {
      recorders = give.rings ∙ sound.one.rings.recorders;
      disks = sound.one.rings.disks;
      puts = map-places (λ (ring : Sending). length ring.put) (λ (ring : Sending). length ring.put) after.driver.rings session.driver.rings give.rings
          (λ recorder ring old here there.
          let stays = RingStays-gave recorder ring here in
          ap length stays.2.put ∙ ap (λ (r : Sending). length r.put) (same_Some stays.0 old (sym stays.1 ∙ there)))
          ∙ sound.one.rings.puts;
      gets = sound.one.rings.gets;
      own_disks = sound.one.rings.own_disks;
      own = λ recorder ring here.
          let stays = RingStays-gave recorder ring here in
          let own : IsOwnRing session.driver recorder stays.0 = sound.one.rings.own recorder stays.0 stays.1 in
          record {
            samples = stays.2.samples ∙ own.samples;
            most = stays.2.most ∙ own.most;
            items = subst (λ blocks. items_of blocks ≤ frames_run session.driver * channels_on session.driver.script recorder) (sym stays.2.put) own.items;
          };
    }

    -- the session behind, with what changed told
    abbrev later : Session
    later = record session { driver = record session.driver { rings = after.driver.rings }; getting = after.getting; tapes = after.tapes; counts = after.counts }

    IsOne-gave : IsOne later
    IsOne-gave =
        let one = sound.one in
        let rows = one.rows in
        record {
          lawful = one.lawful;
          desk_script = one.desk_script;
          driver_script = one.driver_script;
          desk = one.desk;
          table = one.table;
          base = one.base;
          rows = record { cycles = rows.cycles; numbers = rows.numbers; last = rows.last; place = rows.place; base = rows.base };
          rings = rings-gave;
          own_recorders = one.own_recorders;
          own_disks = one.own_disks;
          capacity = All-places (λ (ring : Sending). ring.capacity ≡ session.script.header.ring) after.driver.rings (λ recorder ring here.
              let stays = RingStays-gave recorder ring here in
              stays.2.capacity ∙ at-place (λ (old : Sending). old.capacity ≡ session.script.header.ring) session.driver.rings recorder stays.0 one.capacity stays.1);
          recorder_ends = give.getting ∙ one.recorder_ends;
          recorder_pairs = each-pair IsPair (λ recorder p. pair-blocks most p.reel p.reel_after p.gives (one.recorder_pairs recorder p.reel.ring p.reel.getting p.before.ring p.before.getting));
          disk_ends = one.disk_ends;
          disk_pairs = one.disk_pairs;
        }

    HasFiles-gave : HasFiles later
    HasFiles-gave =
        let files = sound.files in
        record {
          playback = record { tape = files.playback.tape; attached = files.playback.attached; going = files.playback.going };
          playback_format = files.playback_format;
          sound = files.sound;
          formats = map-places (λ (tape : Tape). tape.format) (λ (tape : Tape). tape.format) after.tapes session.tapes give.tapes
              (λ recorder tape old here there.
              let low : recorder < length session.tapes = slice_get_within session.tapes recorder old there in
              let p = passed recorder (omega (arith, low, many-tapes)) in
              ap (λ (t : Tape). t.format) (same_Some tape p.reel_after.tape (sym here ∙ p.behind.tape))
              ∙ format-blocks most p.reel p.reel_after p.gives
              ∙ ap (λ (t : Tape). t.format) (same_Some p.reel.tape old (sym p.before.tape ∙ there)))
              ∙ files.formats;
          may = each-file MayWrite (λ recorder p. may-blocks most p.reel p.reel_after p.gives);
          samples = each-file (λ got tape. HasSamples tape (samples_of_blocks got.got))
              (λ recorder p. samples-blocks most p.reel p.reel_after p.gives (files.samples recorder p.reel.getting p.reel.tape p.before.getting p.before.tape));
          counted = map-places_is (λ (got : Getting). length got.got) after.getting after.counts (omega (arith, give.getting, give.counts, many-counts, sound.one.recorder_ends))
              (λ recorder got blocks here there.
              let low : recorder < length after.getting = slice_get_within after.getting recorder got here in
              let getting : length session.getting ≡ recorders = sound.one.recorder_ends in
              let p = passed recorder (omega (arith, low, give.getting, getting)) in
              let counted : length p.reel.getting.got ≡ p.reel.blocks = counted-at recorder p.reel p.before in
              ap (λ (g : Getting). length g.got) (same_Some got p.reel_after.getting (sym here ∙ p.behind.getting))
              ∙ counted-blocks most p.reel p.reel_after p.gives counted
              ∙ same_Some p.reel_after.blocks blocks (sym p.behind.blocks ∙ there));
        }
      where
        counted-at : (recorder : ℕ) (reel : Reel) → IsReel session recorder reel → length reel.getting.got ≡ reel.blocks
        counted-at recorder reel is =
            same_Some (length reel.getting.got) reel.blocks
            (sym (mapped_there (λ (got : Getting). length got.got) session.getting recorder reel.getting is.getting) ∙ ap (λ ns. slice_get ns recorder) sound.files.counted ∙ is.blocks)

    pub IsSound-gave : IsSound after
    IsSound-gave =
        let sound_later : IsSound later = record {
          one = IsOne-gave;
          misses = record { overruns = sound.misses.overruns; underruns = sound.misses.underruns };
          files = HasFiles-gave;
          no_end = All-places (λ (ring : Sending). ring.ended ≡ false) after.driver.rings (each-ring (λ recorder ring. ring.ended ≡ false) (λ recorder p. no_end-blocks most p.reel p.reel_after p.gives));
          room = sound.room;
          going = sound.going;
        } in
        subst IsSound (sym give.same) sound_later

    pub AreEmpty-gave : session.script.header.ring ≤ most → AreEmpty after
    AreEmpty-gave room = All-places (λ (ring : Sending). ring.least ≡ length ring.put) after.driver.rings
        (each-ring (λ recorder ring. ring.least ≡ length ring.put) (λ recorder p.
        let capacity : p.reel.ring.capacity ≡ session.script.header.ring = at-place (λ (old : Sending). old.capacity ≡ session.script.header.ring) session.driver.rings recorder p.reel.ring sound.one.capacity p.before.ring in
        empty-blocks most p.reel p.reel_after p.gives (omega (arith, capacity, room))))

-- what the ends of the disks' rings know is no matter of it
pub DisksTell-gave : (most : ℕ) (session after : Session) → GiveUp most session after → DisksTell session → DisksTell after
DisksTell-gave most session after give = DisksTell-alone session after (ap (λ (s : Session). s.players) give.same) (ap (λ (s : Session). s.driver.disks) give.same)
