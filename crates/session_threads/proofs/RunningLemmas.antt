-- A session's run in threads mode, told of its parts.
--     ready-ran, ready-at      it stands before its first phase
--     threads-whole, threads-ran, threads-fail      what the run of its phases leaves of it
use Rattle.std.proofs.Common.{◌≡◌, ℕ, length, Option, Some, None, IsNone, IsSome, sym, subst, true≢false}
use Rattle.session_model.specs.Explanations.{Given}
use Rattle.session_model.specs.Kinds.{Sound}
use Rattle.session_model.specs.Scripts.{Script, phases}
use Rattle.client_kinds.specs.Scores.{Score}
use Rattle.recorder_files.specs.Recorders.{Stored}
use Rattle.session_works.specs.RunWords.{AtPhase, IsGiven, RanPhases, Runs, Session, StandsSoFar}
use Rattle.session_works.specs.SerialWords.{IsSettled}
use Rattle.session_works.specs.Insides.{Stays, parts_of, seen}
use Rattle.session_works.specs.Parts.{Parts, session_of, told_of}
use Rattle.session_works.specs.Standings.{HasRun, IsReady}
use Rattle.session_works.specs.declared.works.SessionWorks.{SessionWorks}
use Rattle.session_works.proofs.ReadyLemmas.{after_is, files-begun, has-run, same_script, script_is, seen_is, tape-begun, told_is, whole}
use Rattle.session_threads.specs.Laws.{AtFirst, RestsAtFirst, RunsWithThreads}

no-threads : {T : Type 0} (threads : Option T) → IsNone threads → IsSome threads → ⊥
no-threads None none some = true≢false (sym some)
no-threads (Some n) none some = true≢false none

module _ (sounding : Score → Sound) {S W G : Type 0} (now : Parts) (works : SessionWorks S W G) (playback : Option Stored) (attached : ℕ) (view : whole works playback attached ≡ now) (ready : IsReady sounding now)
    (threads : IsSome now.gear.script.header.threads) where
  pub has_threads : IsSome works.driver.script.header.threads
  has_threads = subst (λ (s : Script). IsSome s.header.threads) (sym (script_is sounding now works playback attached view ready)) threads

  pub ready-ran : RestsAtFirst → RanPhases (seen sounding works) 0
  ready-ran law = subst (λ (s : Session). RanPhases s 0) (seen_is sounding now works playback attached view ready) (law (session_of sounding now) ready.0.new)

  ready-at : AtFirst → (given : Given) → IsGiven (session_of sounding now) given → AtPhase (seen sounding works) given 0
  ready-at law given is =
      subst (λ (s : Session). AtPhase s given 0) (seen_is sounding now works playback attached view ready)
      (law (session_of sounding now) given ready.0.new (files-begun sounding now ready) (tape-begun sounding now works playback attached view ready) ready.0.fresh is)

  module _ (after : SessionWorks S W G) (stays : Stays sounding (parts_of works) (parts_of after)) where
    script_after : after.driver.script ≡ now.gear.script
    script_after = same_script sounding now works playback attached view ready after stays

    pub threads-whole : AtFirst → RunsWithThreads → RanPhases (seen sounding after) (length (phases after.driver.script)) → ((given : Given) → AtPhase (seen sounding works) given 0 → AtPhase (seen sounding after) given (length (phases after.driver.script)))
        → Runs (session_of sounding now) (session_of sounding (whole after playback attached))
    threads-whole first law ran at =
        subst (λ (s : Session). Runs (session_of sounding now) s) (sym (after_is sounding now works playback attached view ready after stays))
        (law (session_of sounding now) (seen sounding after) threads script_after ran (λ given is. at given (ready-at first given is)))

    pub threads-ran : IsSettled (seen sounding after) → RanPhases (seen sounding after) (length (phases after.driver.script)) → HasRun sounding (whole after playback attached)
    threads-ran settled ran =
        has-run sounding now works playback attached view ready after stays settled ran
        (λ none. absurd (no-threads after.driver.script.header.threads none (subst (λ (s : Script). IsSome s.header.threads) (sym script_after) threads)))

    pub threads-fail : AtFirst → ((kept : ℕ) × ((given : Given) → AtPhase (seen sounding works) given 0 → StandsSoFar kept (told_of sounding (parts_of after)) given))
        → (kept : ℕ) × ((given : Given) → IsGiven (session_of sounding now) given → StandsSoFar kept (told_of sounding (whole after playback attached)) given)
    threads-fail first fails =
        (fails.0, λ given is. subst (λ (s : Session). StandsSoFar fails.0 s given) (sym (told_is sounding now works playback attached view ready after stays)) (fails.1 given (ready-at first given is)))
