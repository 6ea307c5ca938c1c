-- The laws of a run with threads, as they are cited. No public clause cites this module.
--     AsManySegments      a segment for each phase
--     RestsAtFirst, AtFirst      before the first phase
--     PhaseBehind, PhaseAt      behind a phase
--     FailsWithFronts, UnfinishedFronts      behind one that failed
--     RunsWithThreads      all phases
use Rattle.std.specs.Prelude.{◌≡◌, ℕ, suc, Bool, [], length, slice_get, Some, IsSome}
use Rattle.session_model.specs.Explanations.{Given}
use Rattle.session_model.specs.Scripts.{Phase, Script, phases}
use Rattle.script_segments.specs.Segments.{segments}
use Rattle.driver_laws.specs.Keeping.{HasTape}
use Rattle.session_works.specs.RunWords.{AtPhase, HasFiles, IsGiven, IsNew, RanPhases, Runs, Session, StandsSoFar}
use Rattle.session_works.specs.SerialWords.{AreFresh, bare, IsSettled, told}
use Rattle.thread_laws.specs.Faults.{StandsUnfinished, ThreadFault}
use Rattle.thread_laws.specs.Segments.{ThreadSegment}

abbrev pub AsManySegments : Type 0
AsManySegments = (script : Script) → length (segments script) ≡ length (phases script)

abbrev pub RestsAtFirst : Type 0
RestsAtFirst = (session : Session) → IsNew (bare session) → RanPhases session 0

abbrev pub AtFirst : Type 0
AtFirst =
    (session : Session) (given : Given) → IsNew (bare session) → HasFiles session → HasTape session.driver.playback [] → AreFresh session
    → IsGiven session given → AtPhase session given 0

abbrev pub PhaseBehind : Type 0
PhaseBehind =
    (session after : Session) (done : ℕ) (phase : Phase) → IsSettled session → slice_get (phases session.script) done ≡ Some phase → RanPhases session done → ThreadSegment done phase.cycles phase.is_freewheel session after
    → IsSettled after × RanPhases after (suc done)

abbrev pub PhaseAt : Type 0
PhaseAt =
    (given : Given) (session after : Session) (done : ℕ) (phase : Phase) → IsSome session.script.header.threads → IsSettled session → slice_get (phases session.script) done ≡ Some phase → AtPhase session given done
    → ThreadSegment done phase.cycles phase.is_freewheel session after → AtPhase after given (suc done)

abbrev pub FailsWithFronts : Type 0
FailsWithFronts =
    (given : Given) (session after : Session) (done many kept : ℕ) (freewheel : Bool) → AtPhase session given done → IsSome session.script.header.threads
    → ThreadFault done many freewheel kept session after → StandsUnfinished kept (told after) given

abbrev pub UnfinishedFronts : Type 0
UnfinishedFronts = (kept : ℕ) (session : Session) (given : Given) → StandsUnfinished kept session given → StandsSoFar kept session given

abbrev pub RunsWithThreads : Type 0
RunsWithThreads =
    (before after : Session) → IsSome before.script.header.threads → after.script ≡ before.script → RanPhases after (length (phases after.script))
    → ((given : Given) → IsGiven before given → AtPhase after given (length (phases after.script))) → Runs before after
