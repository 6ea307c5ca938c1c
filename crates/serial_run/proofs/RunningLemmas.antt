-- A session's run in serial mode, told of its parts.
--     ready-behind, ready-kept      it stands before its first phase, and keeps what it is given
--     run-kept, run-whole, run-fails, has-ran      what the run of its phases leaves of it
use Rattle.std.proofs.Common.{◌≡◌, ℕ, length, Option, IsNone, sym, subst}
use Rattle.session_model.specs.Explanations.{Given}
use Rattle.session_model.specs.Kinds.{Sound}
use Rattle.session_model.specs.Scripts.{phases}
use Rattle.client_kinds.specs.Scores.{Score}
use Rattle.recorder_files.specs.Recorders.{Stored}
use Rattle.session_works.specs.RunWords.{IsGiven, Runs, SerialBehind, SerialKept, Session}
use Rattle.session_works.specs.SerialWords.{IsSettled, StandsInSerial}
use Rattle.session_works.specs.Insides.{Stays, parts_of, seen}
use Rattle.session_works.specs.Parts.{Parts, session_of, told_of}
use Rattle.session_works.specs.Standings.{HasRun, IsReady}
use Rattle.session_works.specs.declared.works.SessionWorks.{SessionWorks}
use Rattle.session_works.proofs.ReadyLemmas.{after_is, files-begun, has-run, same_script, seen_is, tape-begun, told_is, whole}
use Rattle.serial_run.specs.Laws.{BehindAtFirst, KeptAtFirst, RanBehind, RunsWhole}

module _ (sounding : Score → Sound) {S W G : Type 0} (now : Parts) (works : SessionWorks S W G) (playback : Option Stored) (attached : ℕ) (view : whole works playback attached ≡ now) (ready : IsReady sounding now)
    (serial : IsNone now.gear.script.header.threads) where
  pub ready-behind : BehindAtFirst → SerialBehind (seen sounding works) 0
  ready-behind law =
      subst (λ (s : Session). SerialBehind s 0) (seen_is sounding now works playback attached view ready) (law (session_of sounding now) ready.0.new serial (files-begun sounding now ready))

  ready-kept : KeptAtFirst → (given : Given) → IsGiven (session_of sounding now) given → SerialKept given (seen sounding works)
  ready-kept law given is =
      subst (λ (s : Session). SerialKept given s) (seen_is sounding now works playback attached view ready)
      (law (session_of sounding now) given ready.0.new serial (files-begun sounding now ready) (tape-begun sounding now works playback attached view ready) ready.0.fresh is)

  module _ (after : SessionWorks S W G) (stays : Stays sounding (parts_of works) (parts_of after)) where
    seen_after : session_of sounding (whole after playback attached) ≡ seen sounding after
    seen_after = after_is sounding now works playback attached view ready after stays

    pub run-kept : KeptAtFirst → ((given : Given) → SerialKept given (seen sounding works) → SerialKept given (seen sounding after)) → (given : Given) → IsGiven (session_of sounding now) given → SerialKept given (session_of sounding (whole after playback attached))
    run-kept law keeps given is = subst (λ (s : Session). SerialKept given s) (sym seen_after) (keeps given (ready-kept law given is))

    pub run-whole : KeptAtFirst → RunsWhole → IsSettled (seen sounding after) → SerialBehind (seen sounding after) (length (phases after.driver.script))
        → ((given : Given) → SerialKept given (seen sounding works) → SerialKept given (seen sounding after)) → Runs (session_of sounding now) (session_of sounding (whole after playback attached))
    run-whole kept law settled behind keeps =
        subst (λ (s : Session). Runs (session_of sounding now) s) (sym seen_after)
        (law (session_of sounding now) (seen sounding after) serial (same_script sounding now works playback attached view ready after stays) settled behind (λ given is. keeps given (ready-kept kept given is)))

    pub run-fails : KeptAtFirst → ((given : Given) → SerialKept given (seen sounding works) → StandsInSerial given (told_of sounding (parts_of after))) → (given : Given) → IsGiven (session_of sounding now) given → StandsInSerial given (told_of sounding (whole after playback attached))
    run-fails law fails given is =
        subst (λ (s : Session). StandsInSerial given s) (sym (told_is sounding now works playback attached view ready after stays)) (fails given (ready-kept law given is))

    pub has-ran : RanBehind → IsSettled (seen sounding after) → SerialBehind (seen sounding after) (length (phases after.driver.script)) → HasRun sounding (whole after playback attached)
    has-ran law settled behind = has-run sounding now works playback attached view ready after stays settled (law (seen sounding after) behind) (λ none. behind)
