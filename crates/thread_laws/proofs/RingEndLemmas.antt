-- The parts of a session whose recorders' rings got an end, gave up all blocks, and lost the end again.
--     EndsStay-ended, EndsStay-served, EndsStay-renewed      each ring keeps its blocks, and each file has the samples of those got
--     IsSoundBut-ends      so the parts belong together as before
--     IsSoundBut-ended, HasFiles-served, IsSoundBut-served, IsSound-renewed
use Rattle.std.proofs.Common.{◌≡◌, ℕ, ◌+◌, ◌*◌, ◌<◌, ◌≤◌, Bool, true, false, List, [], length, map, slice_get, Some, refl, sym, ◌∙◌, ap, subst, arith}
use Rattle.std.proofs.lemmas.List.{length-map}
use Rattle.std.proofs.lemmas.Option.{same_Some, slice_get_within}
use Rattle.session_model.specs.Scripts.{Script}
use Rattle.driver_words.specs.Rings.{Getting, IsPair, Sending, items_of}
use Rattle.driver_words.specs.Tapes.{HasSamples, Tape}
use Rattle.disk_recorder.specs.Recordings.{MayWrite}
use Rattle.session_model.specs.Rings.{samples_of_blocks}
use Rattle.driver_laws.specs.Drivers.{HasOwnRings, IsOwnRing, channels_on, frames_run}
use Rattle.driver_laws.proofs.PlaceLemmas.{there_too}
use Rattle.recorder_files.specs.Recorders.{Reel}
use Rattle.run_laws.specs.Runs.{HasFiles}
use Rattle.run_laws.specs.Sessions.{IsOne, Session}
use Rattle.run_laws.proofs.PlaceLemmas.{mapped_there, some_at}
use Rattle.serial_laws.specs.Steps.{IsReel, IsSound}
use Rattle.serial_laws.proofs.EachLemmas.{All-places, at-place, map-places, map-places_is}
use Rattle.serial_laws.proofs.GiveLemmas.{reel_at}
use Rattle.thread_laws.specs.Parts.{EndsStay, IsSoundBut, ReelStays}
use Rattle.thread_laws.specs.Segments.{Renewed, RingsEnded, Served, with_end}
use Rattle.thread_laws.proofs.PartLemmas.{IsSound-open}

-- ---- what stays of a recorder

-- the same blocks, file and count, whatever the ends know
reel-same : (before after : Reel) (look : ℕ) (ended : Bool) (least : ℕ) (told done : Bool) → after.ring ≡ record before.ring { least = look; ended = ended }
    → after.getting ≡ record before.getting { least = least; told = told; done = done } → after.tape ≡ before.tape → after.blocks ≡ before.blocks → ReelStays before after
reel-same before after look ended least told done ring_is got_is tape_is blocks_is =
    let behind : Getting = record before.getting { least = least; told = told; done = done } in
    record {
      put = ap (λ (r : Sending). r.put) ring_is;
      capacity = ap (λ (r : Sending). r.capacity) ring_is;
      samples = ap (λ (r : Sending). r.samples) ring_is;
      most = ap (λ (r : Sending). r.most) ring_is;
      pair = λ pair. record {
        one = ap (λ (r : Sending). r.table) ring_is ∙ pair.one ∙ sym (ap (λ (g : Getting). g.table) got_is);
        same_samples = ap (λ (r : Sending). r.samples) ring_is ∙ pair.same_samples ∙ sym (ap (λ (g : Getting). g.samples) got_is);
        same_most = ap (λ (r : Sending). r.most) ring_is ∙ pair.same_most ∙ sym (ap (λ (g : Getting). g.most) got_is);
      };
      format = ap (λ (t : Tape). t.format) tape_is;
      may = λ may.
          let told_so : MayWrite behind before.tape = record { going = may.going; lawful = may.lawful; few = may.few; got = may.got; written = may.written } in
          subst (λ (g : Getting). MayWrite g after.tape) (sym got_is) (subst (MayWrite behind) (sym tape_is) told_so);
      has = λ has.
          subst (λ (g : Getting). HasSamples after.tape (samples_of_blocks g.got)) (sym got_is) (subst (λ (t : Tape). HasSamples t (samples_of_blocks before.getting.got)) (sym tape_is) has);
      counted = λ counted. ap (λ (g : Getting). length g.got) got_is ∙ counted ∙ sym blocks_is;
    }

-- what stands at one place of a list that stays
stays-at : {X : Type 0} (k : ℕ) (x y : X) → (xs ys : List X) → ys ≡ xs → slice_get xs k ≡ Some x → slice_get ys k ≡ Some y → y ≡ x
stays-at k x y xs ys same here there = same_Some y x (sym there ∙ ap (λ zs. slice_get zs k) same ∙ here)

pub EndsStay-ended : (session after : Session) → RingsEnded session after → EndsStay session after
EndsStay-ended session after ended = record {
  each = λ recorder reel reel_after is is_after.
      let rings : after.driver.rings ≡ map with_end session.driver.rings = ap (λ (s : Session). s.driver.rings) ended.same in
      reel-same reel reel_after reel.ring.least true reel.getting.least reel.getting.told reel.getting.done
      (stays-at recorder (with_end reel.ring) reel_after.ring (map with_end session.driver.rings) after.driver.rings rings (mapped_there with_end session.driver.rings recorder reel.ring is.ring) is_after.ring)
      (stays-at recorder reel.getting reel_after.getting session.getting after.getting (ap (λ (s : Session). s.getting) ended.same) is.getting is_after.getting)
      (stays-at recorder reel.tape reel_after.tape session.tapes after.tapes (ap (λ (s : Session). s.tapes) ended.same) is.tape is_after.tape)
      (stays-at recorder reel.blocks reel_after.blocks session.counts after.counts (ap (λ (s : Session). s.counts) ended.same) is.blocks is_after.blocks);
  rings = ap (λ (s : Session). length s.driver.rings) ended.same ∙ length-map session.driver.rings with_end;
  getting = ap (λ (s : Session). length s.getting) ended.same;
  tapes = ap (λ (s : Session). length s.tapes) ended.same;
  counts = ap (λ (s : Session). length s.counts) ended.same;
  same = subst (λ (s : Session). s ≡ record session { driver = record session.driver { rings = s.driver.rings }; getting = s.getting; tapes = s.tapes; counts = s.counts }) (sym ended.same) refl;
}

pub EndsStay-renewed : (session after : Session) → Renewed session after → EndsStay session after
EndsStay-renewed session after renewed = record {
  each = λ recorder reel reel_after is is_after.
      let renews = renewed.each recorder reel.ring reel_after.ring reel.getting reel_after.getting is.ring is.getting is_after.ring is_after.getting in
      reel-same reel reel_after (length reel.getting.got) false (length reel.ring.put) false false renews.sending_is renews.getting_is
      (stays-at recorder reel.tape reel_after.tape session.tapes after.tapes (ap (λ (s : Session). s.tapes) renewed.same) is.tape is_after.tape)
      (stays-at recorder reel.blocks reel_after.blocks session.counts after.counts (ap (λ (s : Session). s.counts) renewed.same) is.blocks is_after.blocks);
  rings = renewed.rings;
  getting = renewed.getting;
  tapes = ap (λ (s : Session). length s.tapes) renewed.same;
  counts = ap (λ (s : Session). length s.counts) renewed.same;
  same = subst (λ (s : Session). s ≡ record session { driver = record session.driver { rings = s.driver.rings }; getting = s.getting; tapes = s.tapes; counts = s.counts }) (sym renewed.same) refl;
}

pub EndsStay-served : (session after : Session) → Served session after → EndsStay session after
EndsStay-served session after served = record {
  each = λ recorder reel reel_after is is_after.
      let serves = served.each recorder reel reel_after is is_after in
      let writes = serves.serves.writes in
      let ring_is : reel_after.ring ≡ reel.ring = stays-at recorder reel.ring reel_after.ring session.driver.rings after.driver.rings (ap (λ (s : Session). s.driver.rings) served.same) is.ring is_after.ring in
      record {
        put = ap (λ (r : Sending). r.put) ring_is;
        capacity = ap (λ (r : Sending). r.capacity) ring_is;
        samples = ap (λ (r : Sending). r.samples) ring_is;
        most = ap (λ (r : Sending). r.most) ring_is;
        pair = λ pair. record {
          one = ap (λ (r : Sending). r.table) ring_is ∙ pair.one ∙ sym writes.same.table;
          same_samples = ap (λ (r : Sending). r.samples) ring_is ∙ pair.same_samples ∙ sym writes.same.room;
          same_most = ap (λ (r : Sending). r.most) ring_is ∙ pair.same_most ∙ sym writes.same.most;
        };
        format = writes.same.format;
        may = λ may. writes.may;
        has = λ has. writes.samples [] has;
        counted = λ counted. writes.count_is ∙ ap (λ n. n + serves.count) counted ∙ sym serves.counted;
      };
  rings = ap (λ (s : Session). length s.driver.rings) served.same;
  getting = served.getting;
  tapes = served.tapes;
  counts = served.counts;
  same = subst (λ (s : Session). s ≡ record session { driver = record session.driver { rings = s.driver.rings }; getting = s.getting; tapes = s.tapes; counts = s.counts }) (sym served.same) refl;
}

-- ---- what holds of the parts

-- a recorder before and behind
record Stayed (session after : Session) (recorder : ℕ) : Type 0 where
  reel : Reel
  reel_after : Reel
  before : IsReel session recorder reel
  behind : IsReel after recorder reel_after
  stays : ReelStays reel reel_after

module _ (session after : Session) (sound : IsSoundBut session) (ends : EndsStay session after) where
  abbrev recorders : ℕ
  recorders = length session.script.header.recorders

  rings-long : length session.driver.rings ≡ recorders
  rings-long = sound.one.rings.recorders ∙ ap (λ (s : Script). length s.header.recorders) sound.one.driver_script

  getting-long : length session.getting ≡ recorders
  getting-long = sound.one.recorder_ends

  tapes-long : length session.tapes ≡ recorders
  tapes-long = sym (length-map session.tapes (λ (tape : Tape). tape.format)) ∙ ap length sound.files.formats

  counts-long : length session.counts ≡ recorders
  counts-long = sym (ap length sound.files.counted) ∙ length-map session.getting (λ (got : Getting). length got.got) ∙ sound.one.recorder_ends

  stayed : (recorder : ℕ) → recorder < recorders → Stayed session after recorder
  stayed recorder low =
      let reel = reel_at session recorder (omega (arith, low, rings-long)) (omega (arith, low, getting-long)) (omega (arith, low, tapes-long)) (omega (arith, low, counts-long)) in
      let reel_after =
      reel_at after recorder (omega (arith, low, rings-long, ends.rings)) (omega (arith, low, getting-long, ends.getting)) (omega (arith, low, tapes-long, ends.tapes)) (omega (arith, low, counts-long, ends.counts)) in
      record { reel = reel.0; reel_after = reel_after.0; before = reel.1; behind = reel_after.1; stays = ends.each recorder reel.0 reel_after.0 reel.1 reel_after.1 }

  ring-low : (recorder : ℕ) (ring : Sending) → slice_get after.driver.rings recorder ≡ Some ring → recorder < recorders
  ring-low recorder ring here = let low : recorder < length after.driver.rings = slice_get_within after.driver.rings recorder ring here in omega (arith, low, ends.rings, rings-long)

  got-low : (recorder : ℕ) (got : Getting) → slice_get after.getting recorder ≡ Some got → recorder < recorders
  got-low recorder got here = let low : recorder < length after.getting = slice_get_within after.getting recorder got here in omega (arith, low, ends.getting, getting-long)

  -- what holds of each ring behind
  each-ring : (P : ℕ → Sending → Type 0) → ((recorder : ℕ) (s : Stayed session after recorder) → P recorder s.reel_after.ring) → (recorder : ℕ) (ring : Sending) → slice_get after.driver.rings recorder ≡ Some ring → P recorder ring
  each-ring P holds recorder ring here =
      let s = stayed recorder (ring-low recorder ring here) in
      subst (P recorder) (same_Some s.reel_after.ring ring (sym s.behind.ring ∙ here)) (holds recorder s)

  -- of each ring and its other end
  each-pair : (P : Sending → Getting → Type 0) → ((recorder : ℕ) (s : Stayed session after recorder) → P s.reel_after.ring s.reel_after.getting)
      → (recorder : ℕ) (ring : Sending) (got : Getting) → slice_get after.driver.rings recorder ≡ Some ring → slice_get after.getting recorder ≡ Some got → P ring got
  each-pair P holds recorder ring got here there =
      let s = stayed recorder (ring-low recorder ring here) in
      subst (λ (r : Sending). P r got) (same_Some s.reel_after.ring ring (sym s.behind.ring ∙ here))
      (subst (P s.reel_after.ring) (same_Some s.reel_after.getting got (sym s.behind.getting ∙ there)) (holds recorder s))

  -- of each end that gets, and the file
  each-file : (P : Getting → Tape → Type 0) → ((recorder : ℕ) (s : Stayed session after recorder) → P s.reel_after.getting s.reel_after.tape)
      → (recorder : ℕ) (got : Getting) (tape : Tape) → slice_get after.getting recorder ≡ Some got → slice_get after.tapes recorder ≡ Some tape → P got tape
  each-file P holds recorder got tape here there =
      let s = stayed recorder (got-low recorder got here) in
      subst (λ (g : Getting). P g tape) (same_Some s.reel_after.getting got (sym s.behind.getting ∙ here))
      (subst (P s.reel_after.getting) (same_Some s.reel_after.tape tape (sym s.behind.tape ∙ there)) (holds recorder s))

  rings-stay : HasOwnRings (record session.driver { rings = after.driver.rings })
  rings-stay = record {
    recorders = ends.rings ∙ sound.one.rings.recorders;
    disks = sound.one.rings.disks;
    puts = map-places (λ (ring : Sending). length ring.put) (λ (ring : Sending). length ring.put) after.driver.rings session.driver.rings ends.rings
        (λ recorder ring old here there.
        each-ring (λ k (r : Sending). (o : Sending) → slice_get session.driver.rings k ≡ Some o → length r.put ≡ length o.put)
        (λ k s o there_too. ap length s.stays.put ∙ ap (λ (r : Sending). length r.put) (same_Some s.reel.ring o (sym s.before.ring ∙ there_too)))
        recorder ring here old there)
        ∙ sound.one.rings.puts;
    gets = sound.one.rings.gets;
    own_disks = sound.one.rings.own_disks;
    own = each-ring (λ k (r : Sending). IsOwnRing (record session.driver { rings = after.driver.rings }) k r) (λ k s.
        let own : IsOwnRing session.driver k s.reel.ring = sound.one.rings.own k s.reel.ring s.before.ring in
        record {
          samples = s.stays.samples ∙ own.samples;
          most = s.stays.most ∙ own.most;
          items = subst (λ blocks. items_of blocks ≤ frames_run session.driver * channels_on session.driver.script k) (sym s.stays.put) own.items;
        });
  }

  -- the session behind, with what changed told
  abbrev later : Session
  later = record session { driver = record session.driver { rings = after.driver.rings }; getting = after.getting; tapes = after.tapes; counts = after.counts }

  IsOne-ends : IsOne later
  IsOne-ends =
      let one : IsOne session = sound.one in
      record {
        lawful = one.lawful;
        desk_script = one.desk_script;
        driver_script = one.driver_script;
        desk = one.desk;
        table = one.table;
        base = one.base;
        rows = record { cycles = one.rows.cycles; numbers = one.rows.numbers; last = one.rows.last; place = one.rows.place; base = one.rows.base };
        rings = rings-stay;
        own_recorders = one.own_recorders;
        own_disks = one.own_disks;
        capacity = All-places (λ (ring : Sending). ring.capacity ≡ session.script.header.ring) after.driver.rings (each-ring (λ k (r : Sending). r.capacity ≡ session.script.header.ring) (λ k s.
            s.stays.capacity ∙ at-place (λ (old : Sending). old.capacity ≡ session.script.header.ring) session.driver.rings k s.reel.ring one.capacity s.before.ring));
        recorder_ends = ends.getting ∙ one.recorder_ends;
        recorder_pairs = each-pair IsPair (λ k s. s.stays.pair (one.recorder_pairs k s.reel.ring s.reel.getting s.before.ring s.before.getting));
        disk_ends = one.disk_ends;
        disk_pairs = one.disk_pairs;
      }

  HasFiles-ends : HasFiles later
  HasFiles-ends =
      let files : HasFiles session = sound.files in
      record {
        playback = record { tape = files.playback.tape; attached = files.playback.attached; going = files.playback.going };
        playback_format = files.playback_format;
        sound = files.sound;
        formats = map-places (λ (tape : Tape). tape.format) (λ (tape : Tape). tape.format) after.tapes session.tapes ends.tapes
            (λ recorder tape old here there.
            let low : recorder < length session.tapes = slice_get_within session.tapes recorder old there in
            let s = stayed recorder (omega (arith, low, tapes-long)) in
            ap (λ (t : Tape). t.format) (same_Some tape s.reel_after.tape (sym here ∙ s.behind.tape)) ∙ s.stays.format ∙ ap (λ (t : Tape). t.format) (same_Some s.reel.tape old (sym s.before.tape ∙ there)))
            ∙ files.formats;
        may = each-file MayWrite (λ k s. s.stays.may (files.may k s.reel.getting s.reel.tape s.before.getting s.before.tape));
        samples = each-file (λ got tape. HasSamples tape (samples_of_blocks got.got)) (λ k s. s.stays.has (files.samples k s.reel.getting s.reel.tape s.before.getting s.before.tape));
        counted = map-places_is (λ (got : Getting). length got.got) after.getting after.counts (omega (arith, ends.getting, ends.counts, counts-long, getting-long))
            (λ recorder got blocks here there.
            let s = stayed recorder (got-low recorder got here) in
            ap (λ (g : Getting). length g.got) (same_Some got s.reel_after.getting (sym here ∙ s.behind.getting))
            ∙ s.stays.counted (counted-at recorder s.reel s.before)
            ∙ same_Some s.reel_after.blocks blocks (sym s.behind.blocks ∙ there));
      }
    where
      counted-at : (recorder : ℕ) (reel : Reel) → IsReel session recorder reel → length reel.getting.got ≡ reel.blocks
      counted-at recorder reel is =
          same_Some (length reel.getting.got) reel.blocks
          (sym (mapped_there (λ (got : Getting). length got.got) session.getting recorder reel.getting is.getting) ∙ ap (λ ns. slice_get ns recorder) sound.files.counted ∙ is.blocks)

  pub IsSoundBut-ends : IsSoundBut after
  IsSoundBut-ends =
      let behind : IsSoundBut later = record {
        one = IsOne-ends;
        misses = record { overruns = sound.misses.overruns; underruns = sound.misses.underruns };
        files = HasFiles-ends;
        room = sound.room;
        going = sound.going;
      } in
      subst IsSoundBut (sym ends.same) behind

pub IsSoundBut-ended : (session after : Session) → IsSoundBut session → RingsEnded session after → IsSoundBut after
IsSoundBut-ended session after sound ended = IsSoundBut-ends session after sound (EndsStay-ended session after ended)

pub IsSoundBut-served : (session after : Session) → IsSoundBut session → Served session after → IsSoundBut after
IsSoundBut-served session after sound served = IsSoundBut-ends session after sound (EndsStay-served session after served)

-- each recorder's file has the samples of all blocks got, and as many were counted
pub HasFiles-served : (session after : Session) → IsSoundBut session → Served session after → HasFiles after
HasFiles-served session after sound served = (IsSoundBut-served session after sound served).files

-- the end is taken away
pub IsSound-renewed : (session after : Session) → IsSoundBut session → Renewed session after → IsSound after
IsSound-renewed session after sound renewed =
    let behind : IsSoundBut after = IsSoundBut-ends session after sound (EndsStay-renewed session after renewed) in
    IsSound-open after behind (All-places (λ (ring : Sending). ring.ended ≡ false) after.driver.rings (λ recorder ring here.
    let old = there_too after.driver.rings session.driver.rings recorder ring (sym renewed.rings) here in
    let low : recorder < length after.driver.rings = slice_get_within after.driver.rings recorder ring here in
    let rings : length session.driver.rings ≡ length session.getting = sound.one.rings.recorders ∙ ap (λ (s : Script). length s.header.recorders) sound.one.driver_script ∙ sym sound.one.recorder_ends in
    let got = some_at session.getting recorder (omega (arith, low, renewed.rings, rings)) in
    let got_after = some_at after.getting recorder (omega (arith, low, renewed.rings, rings, renewed.getting)) in
    ap (λ (r : Sending). r.ended) (renewed.each recorder old.0 ring got.0 got_after.0 old.1 got.1 here got_after.1).sending_is))
