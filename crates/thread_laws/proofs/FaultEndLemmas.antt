-- An end in threads mode that failed.
--     got-put      a ring that had given up all it had has no more to give
--     front-tried      a recorder's file has a front of what was put
--     end_stands      each file has a front of what was played and kept
use Rattle.std.proofs.Common.{◌≡◌, ℕ, ◌+◌, ◌<◌, ◌≤◌, List, [], length, map, take, slice_get, Some, sym, ◌∙◌, ap, subst, arith, take_all, ℤ}
use Rattle.std.specs.Prelude.{IfSome, IsSome, Option}
use Rattle.std.proofs.Math.Seq.{take-length}
use Rattle.std.proofs.lemmas.Option.{slice_get_within}
use Rattle.jack_types.specs.declared.files.Format.{Format}
use Rattle.jack_types.specs.declared.replies.Entry.{Entry}
use Rattle.jack_types.specs.declared.replies.Underrun.{Underrun}
use Rattle.session_model.specs.Courses.{Course}
use Rattle.session_model.specs.Explanations.{Given, course_of}
use Rattle.session_model.specs.Playback.{playback_format}
use Rattle.session_model.specs.Recorders.{recorder_format}
use Rattle.session_model.specs.Rings.{RingBlock, samples_of_blocks}
use Rattle.session_model.specs.Samples.{below}
use Rattle.session_model.specs.Scripts.{Script, phases}
use Rattle.driver_words.specs.Rings.{Getting, Sending}
use Rattle.driver_words.specs.Tapes.{HasFront, HasSamples, Tape}
use Rattle.wave_write.proofs.TapeLemmas.{unfinished-front}
use Rattle.driver_laws.specs.Drivers.{overruns_on, run, underruns_on}
use Rattle.driver_laws.specs.Keeping.{HasTape, Keeps, kept_blocks, played_so_far}
use Rattle.recorder_files.specs.Recorders.{GivesUp, Reel}
use Rattle.run_laws.specs.Runs.{AtPhase, RingAtRest}
use Rattle.run_laws.specs.Sessions.{Session, course_in}
use Rattle.run_laws.specs.Told.{StandsSoFar}
use Rattle.run_laws.proofs.CourseLemmas.{IsOver-own}
use Rattle.serial_laws.specs.Endings.{Broken, EndFails, EndTried, Finished, Left, Unfinished}
use Rattle.serial_laws.proofs.FaultLemmas.{AreFilled, AreFilled-one, IsFilled, IsFilled-gave, IsTold, IsTold-broke, IsTold-filled, format_at, got-renewed, reel-of}
use Rattle.serial_laws.proofs.FrontLemmas.{HasFront-told}
use Rattle.thread_laws.specs.FaultLaws.{EndStands}
use Rattle.thread_laws.proofs.FileLemmas.{unfinished-blocks}

-- ---- one recorder

got-put : (most : ℕ) (before after : Reel) → GivesUp most before after → before.getting.got ≡ before.ring.put → after.getting.got ≡ before.ring.put
got-put most before after gives all =
    let put : gives.ring_met.put ≡ before.ring.put = ap (λ (r : Sending). r.put) gives.first.sending_is in
    let got : length gives.got_met.got ≡ length before.getting.got = ap (λ (g : Getting). length g.got) gives.first.getting_is in
    let more : length gives.written.got ≡ length gives.got_met.got + gives.count = gives.drains.writes.count_is in
    let none_left : length before.ring.put ≤ length gives.written.got = omega (arith, more, got, ap length all) in
    got-renewed gives.ring_met after.ring gives.written after.getting gives.second
    ∙ gives.second.met.front ∙ ap (take (length gives.written.got)) put ∙ take_all (length gives.written.got) before.ring.put none_left

module _ (format : Format) (most : ℕ) (reel : Reel) (filled : IsFilled format reel) (all : reel.getting.got ≡ reel.ring.put) (bytes : Option (List ℕ)) where
  front-gave : (after : Reel) → GivesUp most reel after → ((samples : List ℤ) → HasSamples after.tape samples → HasFront after.tape.format samples bytes) → HasFront format (samples_of_blocks reel.ring.put) bytes
  front-gave after gives tells =
      let now : IsFilled format after = IsFilled-gave format reel filled most after gives in
      subst (λ blocks. HasFront format (samples_of_blocks blocks) bytes) (got-put most reel after gives all)
      (subst (λ f. HasFront f (samples_of_blocks after.getting.got) bytes) now.format_is (tells (samples_of_blocks after.getting.got) now.samples))

  front-one : (tape : Tape) → bytes ≡ tape.bytes → IsTold format reel.ring.put tape → HasFront format (samples_of_blocks reel.ring.put) bytes
  front-one tape same one =
      subst (λ b. HasFront format (samples_of_blocks reel.ring.put) b) (sym same)
      (unfinished-front format (samples_of_blocks reel.ring.put) tape.bytes (unfinished-blocks format one.blocks reel.ring.put tape.bytes one.front one.unfinished))

  front-tried : EndTried most reel bytes → HasFront format (samples_of_blocks reel.ring.put) bytes
  front-tried (Finished after gives finished) = front-gave after gives (λ samples has. HasFront-told after.tape.format samples bytes (finished samples has))
  front-tried (Unfinished after gives broken) = front-gave after gives broken
  front-tried (Broken after breaks same) = front-one after.tape same (IsTold-broke format reel filled after breaks)
  front-tried (Left same) = front-one reel.tape same (IsTold-filled format reel filled)

-- ---- all files

module _ (given : Given) (session after : Session) (done : ℕ) (at : AtPhase session given done) (threads : IsSome session.script.header.threads) (fails : EndFails session after) where
  abbrev course : Course
  course = course_in given session

  abbrev course_over : List Entry → List ℕ → List Underrun → Script → Course
  course_over history numbers underruns script = course_of given (record { history = history; numbers = numbers; overruns = []; underruns = map (underruns_on underruns) (below (length script.header.disks)) })

  course-is : course_in given after ≡ course
  course-is =
      ap (λ h. course_over h after.driver.numbers after.driver.underruns after.script) fails.history
      ∙ ap (λ ns. course_over session.desk.history ns after.driver.underruns after.script) fails.numbers
      ∙ ap (λ us. course_over session.desk.history session.driver.numbers us after.script) fails.underruns
      ∙ ap (λ s. course_over session.desk.history session.driver.numbers session.driver.underruns s) fails.script

  keeps : Keeps session.driver course
  keeps = at.given_kept.keeps course (IsOver-own session given) at.given_kept.fits

  script-own : session.script ≡ given.script
  script-own = sym at.given_kept.own.script

  playback-front : HasFront (playback_format course) (played_so_far course (run session.driver)) after.playback_file
  playback-front =
      let tape : Tape = at.files.playback.tape in
      let attached : session.driver.playback ≡ Some tape = at.files.playback.attached in
      let format : tape.format ≡ playback_format course =
      subst (λ (s : Script). tape.format ≡ record { rate = s.header.rate; channels = s.header.playback; bits = s.header.bits }) script-own
      (subst (λ o. IfSome o (λ (t : Tape). t.format ≡ record { rate = session.script.header.rate; channels = session.script.header.playback; bits = session.script.header.bits })) attached at.files.playback_format) in
      let has : HasSamples tape (played_so_far course (run session.driver)) = subst (λ o. HasTape o (played_so_far course (run session.driver))) attached keeps.playback in
      subst (λ f. HasFront f (played_so_far course (run session.driver)) after.playback_file) format (fails.playback tape attached (played_so_far course (run session.driver)) has)

  rest : (recorder : ℕ) (ring : Sending) (got : Getting) → slice_get session.driver.rings recorder ≡ Some ring → slice_get session.getting recorder ≡ Some got → got.got ≡ ring.put
  rest recorder ring got here there = let r : RingAtRest given session recorder ring got = at.rings threads recorder ring got here there in r.all_got

  filled : AreFilled session
  filled = AreFilled-one session at.ran.one at.files (λ recorder ring got here there.
      let e : got.got ≡ ring.put = rest recorder ring got here there in
      e ∙ sym (take-length ring.put) ∙ ap (λ (bs : List RingBlock). take (length bs) ring.put) (sym e))

  record-front : (recorder : ℕ) (file : Option (List ℕ)) → slice_get after.record_files recorder ≡ Some file
      → HasFront (recorder_format course recorder) (samples_of_blocks (kept_blocks course (overruns_on session.driver.overruns recorder) recorder (run session.driver))) file
  record-front recorder file there =
      let h : recorder < length after.record_files = slice_get_within after.record_files recorder file there in
      let was = reel-of session filled recorder (omega (arith, h, fails.records, filled.getting)) in
      subst (λ (s : Script). HasFront (format_at s recorder) (samples_of_blocks (kept_blocks course (overruns_on session.driver.overruns recorder) recorder (run session.driver))) file) script-own
      (subst (λ blocks. HasFront (format_at session.script recorder) (samples_of_blocks blocks) file) (keeps.rings recorder was.0.ring was.1.ring).put
      (front-tried (format_at session.script recorder) session.script.header.ring was.0 (filled.each recorder was.0 was.1) (rest recorder was.0.ring was.0.getting was.1.ring was.1.getting) file (fails.each recorder was.0 file was.1 there)))

  pub StandsSoFar-end : StandsSoFar (run session.driver) after given
  StandsSoFar-end =
      let same : run after.driver ≡ run session.driver = ap length fails.numbers in
      record {
        low = omega (arith, same);
        near = omega (arith, same);
        playback = subst (λ (c : Course). HasFront (playback_format c) (played_so_far c (run session.driver)) after.playback_file) (sym course-is) playback-front;
        records = λ recorder file there.
            subst (λ os. HasFront (recorder_format (course_in given after) recorder) (samples_of_blocks (kept_blocks (course_in given after) (overruns_on os recorder) recorder (run session.driver))) file) (sym fails.overruns)
            (subst (λ (c : Course). HasFront (recorder_format c recorder) (samples_of_blocks (kept_blocks c (overruns_on session.driver.overruns recorder) recorder (run session.driver))) file) (sym course-is) (record-front recorder file there));
      }

pub end_stands : EndStands
end_stands given session after at threads fails = StandsSoFar-end given session after (length (phases session.script)) at threads fails
