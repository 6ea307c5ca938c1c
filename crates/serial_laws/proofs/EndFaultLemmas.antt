-- An end of a serial session that failed.
--     got-all      a ring that gave up as many blocks as it may have gave up all
--     HasFront-tried      a recorder's file has a front of what was put
--     StandsInSerial-end      each file has a front of what serial mode gives it
use Rattle.std.proofs.Common.{◌≡◌, ◌⊎◌, inl, inr, ℕ, ◌+◌, ◌<◌, ◌≤◌, List, length, take, slice_get, Some, refl, sym, ◌∙◌, ap, subst, arith, take_all, ℤ}
use Rattle.std.specs.Prelude.{IfSome, Option}
use Rattle.std.proofs.lemmas.Bool.{cases_lt}
use Rattle.std.proofs.lemmas.Option.{get_or_from_slice_get, slice_get_within}
use Rattle.jack_types.specs.declared.files.Format.{Format}
use Rattle.session_model.specs.Courses.{Course}
use Rattle.session_model.specs.Explanations.{Given}
use Rattle.session_model.specs.Playback.{playback_format, played_back}
use Rattle.session_model.specs.Recorders.{recorded, recorder_format}
use Rattle.session_model.specs.Rings.{samples_of_blocks}
use Rattle.session_model.specs.Scripts.{Script, phases, turns}
use Rattle.session_model.specs.Serial.{counts, serial_course, serial_overruns}
use Rattle.driver_words.specs.Rings.{Getting, Sending}
use Rattle.driver_words.specs.Tapes.{HasFront, HasSamples, Tape}
use Rattle.run_laws.specs.driver_laws.specs.Drivers.{overruns_on, run}
use Rattle.run_laws.specs.driver_laws.specs.Keeping.{HasTape, Keeps, kept_blocks, played_so_far}
use Rattle.run_laws.specs.serial_lanes.specs.Laws.{CyclesTotal}
use Rattle.recorder_files.specs.Recorders.{GivesUp, Reel}
use Rattle.run_laws.specs.SerialRuns.{SerialBehind, SerialKept}
use Rattle.run_laws.specs.Sessions.{Session}
use Rattle.serial_laws.specs.Faults.{StandsInSerial, serial_course_of}
use Rattle.serial_laws.specs.Steps.{AreExact, IsSound}
use Rattle.serial_laws.specs.Endings.{Broken, EndFails, EndTried, Finished, Left, Unfinished}
use Rattle.serial_laws.proofs.DiskLemmas.{IsSerialSoFar-exact, SerialFits}
use Rattle.serial_laws.proofs.FaultLemmas.{AreFilled, AreFilled-one, IsFilled, IsFilled-gave, IsTold, IsTold-broke, IsTold-filled, format_at, got-renewed, reel-of}
use Rattle.serial_laws.proofs.FrontLemmas.{HasFront-longer, HasFront-told, KeptAreAll, PlayedIsAll, behind_front, samples-more}

-- ---- one recorder

-- as many blocks as its capacity are all
got-all : (capacity : ℕ) (before after : Reel) → GivesUp capacity before after → before.ring.capacity ≡ capacity → after.getting.got ≡ before.ring.put
got-all capacity before after gives size =
    got-renewed gives.ring_met after.ring gives.written after.getting gives.second
    ∙ gives.second.met.front ∙ ap (take (length gives.written.got)) put ∙ take_all (length gives.written.got) before.ring.put (go (cases_lt gives.count capacity))
  where
    put : gives.ring_met.put ≡ before.ring.put
    put = ap (λ (r : Sending). r.put) gives.first.sending_is

    found : gives.got_met.least ≡ length before.ring.put
    found = ap (λ (g : Getting). g.least) gives.first.getting_is

    got : length gives.got_met.got ≡ length before.getting.got
    got = ap (λ (g : Getting). length g.got) gives.first.getting_is

    go : (gives.count < capacity) ⊎ (capacity ≤ gives.count) → length before.ring.put ≤ length gives.written.got
    go (inl few) =
        let all : gives.written.least ≡ length gives.written.got = gives.drains.fewer few in
        let later : gives.got_met.least ≤ gives.written.least = gives.drains.writes.same.least in
        omega (arith, all, later, found)
    go (inr full) =
        let within : length before.ring.put ≤ length before.getting.got + before.ring.capacity = gives.first.met.within in
        let more : length gives.written.got ≡ length gives.got_met.got + gives.count = gives.drains.writes.count_is in
        omega (arith, within, more, full, got, size)

module _ (format : Format) (reel : Reel) (filled : IsFilled format reel) where
  -- a front of what was put is one of the file
  front-told : (tape : Tape) → IsTold format reel.ring.put tape → HasFront format (samples_of_blocks reel.ring.put) tape.bytes
  front-told tape one =
      let w = behind_front one.blocks reel.ring.put one.front in
      subst (λ samples. HasFront format samples tape.bytes) (sym (ap samples_of_blocks w.1 ∙ samples-more one.blocks w.0))
      (HasFront-longer format (samples_of_blocks one.blocks) (samples_of_blocks w.0) tape.bytes one.unfinished)

  module _ (capacity : ℕ) (size : reel.ring.capacity ≡ capacity) (bytes : Option (List ℕ)) where
    -- a file that has all that was put
    front-all : (after : Reel) → GivesUp capacity reel after → ((samples : List ℤ) → HasSamples after.tape samples → HasFront after.tape.format samples bytes) → HasFront format (samples_of_blocks reel.ring.put) bytes
    front-all after gives tells =
        let now : IsFilled format after = IsFilled-gave format reel filled capacity after gives in
        subst (λ blocks. HasFront format (samples_of_blocks blocks) bytes) (got-all capacity reel after gives size)
        (subst (λ f. HasFront f (samples_of_blocks after.getting.got) bytes) now.format_is (tells (samples_of_blocks after.getting.got) now.samples))

    HasFront-tried : EndTried capacity reel bytes → HasFront format (samples_of_blocks reel.ring.put) bytes
    HasFront-tried (Finished after gives finished) = front-all after gives (λ samples has. HasFront-told after.tape.format samples bytes (finished samples has))
    HasFront-tried (Unfinished after gives broken) = front-all after gives broken
    HasFront-tried (Broken after breaks same) =
        subst (λ b. HasFront format (samples_of_blocks reel.ring.put) b) (sym same) (front-told after.tape (IsTold-broke format reel filled after breaks))
    HasFront-tried (Left same) = subst (λ b. HasFront format (samples_of_blocks reel.ring.put) b) (sym same) (front-told reel.tape (IsTold-filled format reel filled))

-- ---- all files

module _ (fits : SerialFits) (all_played : PlayedIsAll) (all_kept : KeptAreAll) (total : CyclesTotal) (given : Given) (session after : Session) (sound : IsSound session)
    (behind : SerialBehind session (length (phases session.script))) (kept : SerialKept given session) (fails : EndFails session after) where
  abbrev course : Course
  course = serial_course_of given

  keeps : Keeps session.driver course
  keeps =
      let exact : AreExact session = record { numbers = behind.so_far.numbers; rows = behind.so_far.rows; met = behind.so_far.met } in
      kept.keeps course (record { script = refl; capture = refl; disks = refl; scores = refl }) (fits given session sound.one kept.own (IsSerialSoFar-exact given session kept.own exact) kept.turned)

  all_cycles : run session.driver ≡ length (turns session.script)
  all_cycles = behind.cycles_are ∙ total session.script

  course_cycles : run session.driver ≡ length (turns course.script)
  course_cycles = all_cycles ∙ ap (λ (s : Script). length (turns s)) (sym kept.own.script)

  playback-front : HasFront (playback_format course) (played_back course) after.playback_file
  playback-front =
      let tape : Tape = sound.files.playback.tape in
      let attached : session.driver.playback ≡ Some tape = sound.files.playback.attached in
      let format : tape.format ≡ playback_format course =
      subst (λ (s : Script). tape.format ≡ record { rate = s.header.rate; channels = s.header.playback; bits = s.header.bits }) (sym kept.own.script)
      (subst (λ o. IfSome o (λ (t : Tape). t.format ≡ record { rate = session.script.header.rate; channels = session.script.header.playback; bits = session.script.header.bits })) attached sound.files.playback_format) in
      let has : HasSamples tape (played_so_far course (run session.driver)) = subst (λ o. HasTape o (played_so_far course (run session.driver))) attached keeps.playback in
      subst (λ samples. HasFront (playback_format course) samples after.playback_file) (ap (played_so_far course) course_cycles ∙ all_played course)
      (subst (λ f. HasFront f (played_so_far course (run session.driver)) after.playback_file) format (fails.playback tape attached (played_so_far course (run session.driver)) has))

  record-front : (recorder : ℕ) (file : Option (List ℕ)) → slice_get after.record_files recorder ≡ Some file → HasFront (recorder_format course recorder) (recorded course (serial_overruns given.script recorder) recorder) file
  record-front recorder file there =
      let filled : AreFilled session = AreFilled-one session sound.one sound.files (λ recorder ring got here there. (kept.rings recorder ring got here there).counted.front) in
      let h : recorder < length after.record_files = slice_get_within after.record_files recorder file there in
      let was = reel-of session filled recorder (omega (arith, h, fails.records, filled.getting)) in
      let low : recorder < length session.driver.rings = slice_get_within session.driver.rings recorder was.0.ring was.1.ring in
      let size : was.0.ring.capacity ≡ session.script.header.ring =
      subst (λ (r : Sending). r.capacity ≡ session.script.header.ring) (get_or_from_slice_get session.driver.rings recorder was.0.ring was.0.ring was.1.ring) (sound.one.capacity recorder was.0.ring low) in
      let losses : overruns_on session.driver.overruns recorder ≡ serial_overruns given.script recorder =
      (kept.rings recorder was.0.ring was.0.getting was.1.ring was.1.getting).losses
      ∙ ap (λ n. (counts (serial_course session.script) recorder n).losses) all_cycles
      ∙ ap (λ (s : Script). serial_overruns s recorder) (sym kept.own.script) in
      let put : samples_of_blocks was.0.ring.put ≡ recorded course (serial_overruns given.script recorder) recorder =
      ap samples_of_blocks ((keeps.rings recorder was.0.ring was.1.ring).put ∙ ap (λ os. kept_blocks course os recorder (run session.driver)) losses ∙ ap (kept_blocks course (serial_overruns given.script recorder) recorder) course_cycles)
      ∙ all_kept course (serial_overruns given.script recorder) recorder in
      let front : HasFront (format_at session.script recorder) (samples_of_blocks was.0.ring.put) file =
      HasFront-tried (format_at session.script recorder) was.0 (filled.each recorder was.0 was.1) session.script.header.ring size file (fails.each recorder was.0 file was.1 there) in
      subst (λ (s : Script). HasFront (format_at s recorder) (recorded course (serial_overruns given.script recorder) recorder) file) (sym kept.own.script)
      (subst (λ samples. HasFront (format_at session.script recorder) samples file) put front)

  pub StandsInSerial-end : StandsInSerial given after
  StandsInSerial-end = record { playback = playback-front; records = record-front }
