-- A segment that is bound to the device, told of its session.
--     going-of, may-serve-all      what its threads may do when it begins
--     group-behind, lanes-behind, caller-kept      the desk that came back, and the right to call the work off
--     seen-driven      a session whose driver alone went on
--     bound-whole, bound-read, bound-write, bound-torn      the segment behind the filling, by how its threads came out
--     bound-stays, bound-pairs, bound-disks, bound-unwritten, bound-rose, bound-broke, bound-unread      what stays, and what rose
--     segment-whole, segment-fails, segment-broke      with the filling before it
--     on-both      what follows where both are Ok
use Rattle.std.proofs.Common.{◌≡◌, ℕ, ◌<◌, Bool, true, false, List, length, map, slice_get, IfSome, IsOk, All, Option, Some, None, Result, Ok, Err, OnOk, refl, sym, ◌∙◌, ap, subst, arith, true≢false}
use Rattle.std.proofs.lemmas.List.{length-map}
use Rattle.std.proofs.lemmas.Result.{on_ok_weaker}
use Rattle.std.proofs.lemmas.Option.{same_Some, slice_get_within}
use Rattle.jack_host.specs.Causes.{Rose}
use Rattle.session_model.specs.Grammar.{IsScript}
use Rattle.session_model.specs.Kinds.{Sound}
use Rattle.session_model.specs.Scripts.{Script}
use Rattle.client_kinds.specs.Scores.{Score}
use Rattle.driver_words.specs.Rings.{IsPair, Sending}
use Rattle.wave_pcm.specs.Readings.{SameReading}
use Rattle.driver_words.specs.Tapes.{Tape}
use Rattle.session_works.specs.DeskWords.{Desk, DoneGoesOn, GoesOn, IsDesk, IsDone}
use Rattle.driver_laws.specs.Cycling.{CyclesMany, FailsAtRead}
use Rattle.driver_laws.specs.Drivers.{Driver, run}
use Rattle.session_works.specs.Drivers.{Gear, driver_of}
use Rattle.session_works.specs.Cycles.{BreaksAtWrite, IsGoing, RunsInto, StaysInRun, with_end}
use Rattle.recorder_files.specs.Recorders.{Recording, held_or, stored_of}
use Rattle.session_works.specs.RunWords.{Playing, Session}
use Rattle.session_works.proofs.PassedLemmas.{mapped_there, some_at}
use Rattle.session_works.specs.SerialWords.{IsSound}
use Rattle.session_works.specs.disk_files.specs.Serving.{AreRead, HaveFailed as HaveBroken, IsGoing as IsReading}
use Rattle.session_works.specs.disk_runs.specs.Readings.{DisksBroke, DisksRead, DisksServed}
use Rattle.thread_laws.specs.Faults.{AtCapture, AtPlayback, Drove, DroveAll, InFilling, InRun}
use Rattle.thread_laws.specs.Segments.{RingsEnded, Runs, WentOn}
use Rattle.turn_word.specs.Turns.{Caller, Handle, IsCaller, Lock}
use Rattle.desk_turn.specs.Lanes.{HaveRun}
use Rattle.desk_turn.specs.Laws.{DoneBehind}
use Rattle.session_threads.specs.Calling.{HasKept}
use Rattle.session_threads.specs.Driving.{with_ends}
use Rattle.session_works.specs.Insides.{ArePaired, Aside, DisksPaired, Stays, beside, parts_with, seen_with}
use Rattle.session_works.specs.Parts.{HasOpenFiles, OfCapture, OneRose, Parts, SourceRose, session_of, stores_in}
use Rattle.session_threads.specs.Phases.{Bound, BoundFails, HaveMade, SegmentFails, Segmented}
use Rattle.session_threads.specs.Serving.{AreServed, HaveFailed, IsUntorn, MayServe, ServedBy}
use Rattle.session_works.proofs.ReelLemmas.{all-from_places, may-give, recorders_later}
use Rattle.session_threads.proofs.DiskLemmas.{KeepsEnds, broke-rose, disks-served, none-failed, paired-read, read-later}
use Rattle.session_threads.proofs.PhaseLemmas.{went-nowhere}
use Rattle.session_threads.proofs.ServeLemmas.{files-served, recorders-keep, served-at, serves-all, serves-some}
use Rattle.session_works.proofs.PairedLemmas.{few-recorders}
use Rattle.session_works.proofs.StayLemmas.{ends-many}
use Rattle.session_works.proofs.StoreLemmas.{HeldLater, held-file, parts-later, parts-rose, playback-rose}

-- ---- when it begins

pub going-of : (session : Session) → IsSound session → IsGoing session.driver
going-of session sound = record {
  playback = record { tape = sound.files.playback.tape; attached = sound.files.playback.attached; going = sound.files.playback.going };
  sound = sound.files.sound;
  rows = record { cycles = sound.one.rows.cycles; numbers = sound.one.rows.numbers; last = sound.one.rows.last; place = sound.one.rows.place; base = sound.one.rows.base };
  rings = record {
    recorders = sound.one.rings.recorders;
    disks = sound.one.rings.disks;
    puts = sound.one.rings.puts;
    gets = sound.one.rings.gets;
    own_disks = sound.one.rings.own_disks;
    own = λ recorder ring there. let own = sound.one.rings.own recorder ring there in record { samples = own.samples; most = own.most; items = own.items };
  };
  no_end = sound.no_end;
}

pub may-serve-all : (sounding : Score → Sound) (parts : Parts) → IsSound (session_of sounding parts) → HasOpenFiles parts → All MayServe parts.recorders
may-serve-all sounding parts sound files = all-from_places MayServe parts.recorders (λ i recording is.
    let ring = some_at parts.gear.rings.rings i (subst (λ n. i < n) (sym (ends-many sounding parts sound)) (slice_get_within parts.recorders i recording is)) in
    let it = may-give sounding parts i ring.0 recording sound files ring.1 is in
    record { tape = it.1.0; there = it.1.1; may = it.1.2 })

-- ---- the desk that came back

pub group-behind : DoneGoesOn → (session : Session) (after : Desk) → IsSound session → IsDesk after → GoesOn session.desk after → IsDone session.desk 0 → IsDone after 0
group-behind law session after sound is goes = law session.desk after (subst IsScript (sym (goes.script ∙ sound.one.desk_script)) sound.one.lawful) is goes

pub lanes-behind : {E : Type 0} → DoneBehind → (old new : List (Handle Desk)) (desk : Desk) (caller after : Caller Desk) (ran : Result (Unit {0}) E) → length old ≡ 4 → HaveRun old new → HasKept caller after ran → caller.called ≡ false
    → (after.called ≡ false → All (λ (pass : Handle Desk). pass.told ≡ false) new) → All (λ (pass : Handle Desk). All (λ (seen : Desk). GoesOn seen desk) pass.seen) new → OnOk ran (HaveMade desk)
lanes-behind law old new desk caller after ran four run kept quiet told seen = on_ok_weaker ran (λ (same : after ≡ caller). law old new desk four run (told (ap (λ (c : Caller Desk). c.called) same ∙ quiet)) seen) kept.quiet

pub caller-kept : {E : Type 0} (turn : Lock) (opened : Option Desk) (caller after : Caller Desk) {ran : Result (Unit {0}) E} → HasKept caller after ran → IsCaller turn.table turn.passes opened caller → IsCaller turn.table turn.passes opened after
caller-kept turn opened caller after kept is = kept.same ∙ ap (λ (c : Caller Desk). record c { called = after.called }) is

-- ---- what its threads left

pub seen-driven : (sounding : Score → Sound) (aside : Aside) (gear gear_after : Gear) (recordings : List Recording) → gear_after.script ≡ gear.script → seen_with sounding aside gear_after recordings ≡ record (seen_with sounding aside gear recordings) { driver = driver_of sounding gear_after }
seen-driven sounding aside gear gear_after recordings script = ap (λ (s : Script). record (seen_with sounding aside gear_after recordings) { script = s }) script

module _ (sounding : Score → Sound) (m : ℕ) (desk : Desk) (gear driven : Gear) (recordings recordings_after : List Recording) (players players_after : List Playing) (desk_after : Desk)
    (sound : IsSound (seen_with sounding (beside desk players) gear recordings)) (files : HasOpenFiles (parts_with (beside desk players) gear recordings))
    (stays : StaysInRun (driver_of sounding gear) (driver_of sounding driven)) (many : length recordings_after ≡ length recordings) (served : AreServed recordings recordings_after)
    (many_disks : length players_after ≡ length players) (read : AreRead players players_after) (goes : GoesOn desk desk_after) (is : IsDesk desk_after) where
  abbrev here : Aside
  here = beside desk players

  abbrev ended : Parts
  ended = parts_with here (with_ends driven) recordings

  abbrev first : Parts
  first = parts_with here gear recordings

  abbrev last : Parts
  last = parts_with (beside desk_after players_after) (with_ends driven) recordings_after

  ends : RingsEnded (seen_with sounding here driven recordings) (session_of sounding ended)
  ends = record { same = refl }

  reads : DisksServed (seen_with sounding here (with_ends driven) recordings_after) (seen_with sounding (beside desk players_after) (with_ends driven) recordings_after)
  reads = disks-served (seen_with sounding here (with_ends driven) recordings_after) players_after many_disks read

  went : WentOn (seen_with sounding (beside desk players_after) (with_ends driven) recordings_after) (session_of sounding last)
  went = record { goes = goes; desk = is; same = refl }

  open_files : HasOpenFiles ended
  open_files = record { tapes = files.tapes; no_playback = files.no_playback; no_stores = files.no_stores }

  pub bound-whole : CyclesMany m (driver_of sounding gear) (driver_of sounding driven) → All IsUntorn recordings_after × All IsReading players_after → Bound m (session_of sounding first) (session_of sounding last)
  bound-whole cycles going = record {
    cycled = seen_with sounding here driven recordings;
    ended = session_of sounding ended;
    served = seen_with sounding here (with_ends driven) recordings_after;
    read = seen_with sounding (beside desk players_after) (with_ends driven) recordings_after;
    cycles = record { cycles = cycles; same = seen-driven sounding here gear driven recordings stays.script };
    ends = ends;
    serves = serves-all sounding ended recordings_after open_files many served going.0;
    reads = reads;
    going = none-failed (seen_with sounding (beside desk players_after) (with_ends driven) recordings_after) going.1;
    goes = went;
  }

  fails-with : (kept : ℕ) → Drove m kept (session_of sounding first) (seen_with sounding here driven recordings) → BoundFails m kept (session_of sounding first) (session_of sounding last)
  fails-with kept drove = record {
    driven = seen_with sounding here driven recordings;
    ended = session_of sounding ended;
    served = seen_with sounding here (with_ends driven) recordings_after;
    read = seen_with sounding (beside desk players_after) (with_ends driven) recordings_after;
    drove = drove;
    ends = ends;
    serves = serves-some sounding ended recordings_after open_files many served;
    reads = reads;
    goes = went;
  }

  -- the session when its driver was there
  abbrev before : Driver → Session
  before driver = record (seen_with sounding here gear recordings) { driver = driver }

  pub bound-read : RunsInto FailsAtRead m (driver_of sounding gear) (driver_of sounding driven) → (kept : ℕ) × BoundFails m kept (session_of sounding first) (session_of sounding last)
  bound-read into =
      (run into.2, fails-with (run into.2) (AtCapture into.0 (before into.2) into.1 refl (record { cycles = into.3; same = refl }) into.4 (seen-driven sounding here gear driven recordings stays.script)))

  pub bound-write : RunsInto BreaksAtWrite m (driver_of sounding gear) (driver_of sounding driven) → (kept : ℕ) × BoundFails m kept (session_of sounding first) (session_of sounding last)
  bound-write into = (
    run (driver_of sounding driven),
    fails-with (run (driver_of sounding driven))
        (AtPlayback into.0 (before into.2) into.1 refl (record { cycles = into.3; same = refl }) into.4.fails into.4.file (seen-driven sounding here gear driven recordings stays.script)),
  )

  pub bound-torn : CyclesMany m (driver_of sounding gear) (driver_of sounding driven) → (kept : ℕ) × BoundFails m kept (session_of sounding first) (session_of sounding last)
  bound-torn cycles = (run (driver_of sounding driven), fails-with (run (driver_of sounding driven)) (DroveAll refl (record { cycles = cycles; same = seen-driven sounding here gear driven recordings stays.script })))

  -- ---- what stays

  playback_later : HeldLater (held_or None gear.playback) (held_or None driven.playback)
  playback_later =
      let tape : Tape = sound.files.playback.tape in
      let file = stays.playback tape sound.files.playback.attached in
      held-file None None gear.playback driven.playback tape file.0 sound.files.playback.attached file.1 file.2

  pub bound-stays : SameReading gear.capture.reading driven.capture.reading → Stays sounding first last
  bound-stays capture = record {
    script = stays.script;
    scores = stays.scores;
    files = let now = files-served ended recordings_after open_files many served in record { tapes = now.tapes; no_playback = now.no_playback; no_stores = now.no_stores };
    later = parts-later first last playback_later many (recorders_later ended (parts_with here (with_ends driven) recordings_after) (recorders-keep ended recordings_after open_files many served));
    capture = capture;
    many = many;
    players = read-later (session_of sounding first) players_after sound.going many_disks read;
  }

  pub bound-disks : DisksPaired gear players → KeepsEnds gear.disks.disks driven.disks.disks → DisksPaired (with_ends driven) players_after
  bound-disks pairs keeps = let now = paired-read gear driven players players_after pairs keeps many_disks read in record { as_many = now.as_many; few = now.few; each = now.each }

  pub bound-pairs : ArePaired (with_ends driven) recordings_after
  bound-pairs = record {
    as_many = length-map driven.rings.rings with_end ∙ stays.rings.as_many ∙ ends-many sounding first sound ∙ sym many;
    few = let low = few-recorders sounding first sound in omega (arith, many, low);
    each = each;
  }
    where
      each : (recorder : ℕ) (ring : Sending) (now : Recording) → slice_get (map with_end driven.rings.rings) recorder ≡ Some ring → slice_get recordings_after recorder ≡ Some now → IsPair ring now.getting
      each recorder ring now ring_is now_is =
          let low_after : recorder < length driven.rings.rings = subst (λ n. recorder < n) (length-map driven.rings.rings with_end) (slice_get_within (map with_end driven.rings.rings) recorder ring ring_is) in
          let low : recorder < length gear.rings.rings = subst (λ n. recorder < n) stays.rings.as_many low_after in
          let old = some_at gear.rings.rings recorder low in
          let mid = some_at driven.rings.rings recorder low_after in
          let ring_same : with_end mid.0 ≡ ring = same_Some (with_end mid.0) ring (sym (mapped_there with_end driven.rings.rings recorder mid.0 mid.1) ∙ ring_is) in
          let same = stays.rings.each recorder old.0 mid.0 old.1 mid.1 in
          let was = some_at recordings recorder (subst (λ n. recorder < n) (ends-many sounding first sound) low) in
          let pair = sound.one.recorder_pairs recorder old.0 was.0.getting old.1 (mapped_there (λ (r : Recording). r.getting) recordings recorder was.0 was.1) in
          let it = served-at recordings recordings_after recorder was.0 now served was.1 now_is in
          let ends_same = ends-of was.0 now it it.keeps.tape_after.stopped refl in
          subst (λ (s : Sending). IsPair s now.getting) ring_same record {
            one = same.table ∙ pair.one ∙ sym ends_same.0;
            same_samples = same.samples ∙ pair.same_samples ∙ sym ends_same.1;
            same_most = same.most ∙ pair.same_most ∙ sym ends_same.2;
          }
        where
          ends-of : (old new : Recording) (it : ServedBy old new) (stopped : Bool) → it.keeps.tape_after.stopped ≡ stopped
              → (new.getting.table ≡ old.getting.table) × (new.getting.samples ≡ old.getting.samples) × (new.getting.most ≡ old.getting.most)
          ends-of old new it true stopped = let same = (it.torn stopped).fails.same in (same.table, same.room, same.most)
          ends-of old new it false going = let same = (it.whole going).serves.writes.same in (same.table, same.room, same.most)

  pub bound-rose : HaveFailed recordings_after → OneRose (stores_in first) (stores_in last)
  bound-rose failed =
      let old = some_at recordings failed.place (subst (λ n. failed.place < n) many (slice_get_within recordings_after failed.place failed.recording failed.there)) in
      let it : ServedBy old.0 failed.recording = served-at recordings recordings_after failed.place old.0 failed.recording served old.1 failed.there in
      let stopped : it.keeps.tape_after.stopped ≡ true = subst (λ (o : Option Tape). IfSome o (λ (t : Tape). t.stopped ≡ true)) it.keeps.is failed.stopped in
      parts-rose first last failed.place old.0 failed.recording (stored_of it.keeps.tape) (stored_of it.keeps.tape_after) playback_later
      (recorders_later ended (parts_with here (with_ends driven) recordings_after) (recorders-keep ended recordings_after open_files many served)) old.1 failed.there
      (ap (held_or old.0.store) it.keeps.was) (ap (held_or failed.recording.store) it.keeps.is) (it.torn stopped).rose

  pub bound-unwritten : ((tape tape_after : Tape) → gear.playback ≡ Some tape → driven.playback ≡ Some tape_after → Rose tape.faults tape_after.faults)
      → OneRose (stores_in first) (stores_in last)
  bound-unwritten cause =
      let tape : Tape = sound.files.playback.tape in
      let file = stays.playback tape sound.files.playback.attached in
      playback-rose first last (stored_of tape) (stored_of file.0) playback_later
      (recorders_later ended (parts_with here (with_ends driven) recordings_after) (recorders-keep ended recordings_after open_files many served))
      (ap (held_or None) sound.files.playback.attached) (ap (held_or None) file.1) (cause tape file.0 sound.files.playback.attached file.1)

  pub bound-unread : Rose gear.capture.reading.faults driven.capture.reading.faults → SourceRose first last
  bound-unread rose = OfCapture rose

  pub bound-broke : HaveBroken players_after → SourceRose first last
  bound-broke failed = broke-rose first last many_disks read failed

-- ---- with the filling before it

pub segment-whole : (many : ℕ) (session filled after : Session) → DisksRead session.script.header.ring session filled → Bound many filled after → Segmented many false session after
segment-whole many session filled after reads bound = record {
  served = bound.read;
  joins = Runs filled bound.cycled bound.ended bound.served refl reads bound.cycles bound.ends bound.serves bound.reads bound.going;
  goes = bound.goes;
}

pub segment-fails : (many kept : ℕ) (session filled after : Session) → DisksRead session.script.header.ring session filled → BoundFails many kept filled after → SegmentFails many false kept session after
segment-fails many kept session filled after reads fails = record {
  served = fails.read;
  joins = InRun filled fails.driven fails.ended fails.served refl reads fails.drove fails.ends fails.serves fails.reads;
  goes = fails.goes;
}

pub segment-broke : (many : ℕ) (session after : Session) → IsDesk after.desk → DisksBroke session.script.header.ring session after → (kept : ℕ) × SegmentFails many false kept session after
segment-broke many session after desk broke = (run session.driver, record { served = after; joins = InFilling refl refl broke; goes = went-nowhere after desk })

-- ---- outcomes

pub on-both : {T E A B P Q R : Type 0} (r : Result T E) (q : Result A B) → OnOk r (IsOk q) → OnOk r (OnOk q P) → OnOk q Q → (P → Q → R) → OnOk r R
on-both (Ok x) (Ok y) ok p more f = f p more
on-both (Ok x) (Err e) ok p more f = absurd (true≢false (sym ok))
on-both (Err e) q ok p more f = tt
