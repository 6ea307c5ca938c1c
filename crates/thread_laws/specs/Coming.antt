-- How far a session came, where it did not come to its end.
--     HasCome script history numbers      calls in an order that the script allows, and numbers of cycles that do not fall, each within its phase's bounds
--     ComeBehindFault      so it is behind a phase that failed
use Rattle.std.specs.Prelude.{◌≡◌, ℕ, List, slice_get, Some}
use Rattle.std.specs.List.Sorted.{IsNonDecreasing}
use Rattle.jack_types.specs.declared.replies.Entry.{Entry}
use Rattle.session_model.specs.Histories.{LegalSoFar}
use Rattle.session_model.specs.Scripts.{Phase, Script, phases}
use Rattle.run_laws.specs.Runs.{AreWithin, RanPhases}
use Rattle.run_laws.specs.Sessions.{Session}
use Rattle.thread_laws.specs.Faults.{ThreadFault}

pub record HasCome (script : Script) (history : List Entry) (numbers : List ℕ) : Type 0 where
  pub legal : LegalSoFar script history
  pub rising : IsNonDecreasing numbers
  pub within : AreWithin script history numbers

abbrev pub ComeBehindFault : Type 0
ComeBehindFault = (session after : Session) (done kept : ℕ) (phase : Phase) → RanPhases session done → slice_get (phases session.script) done ≡ Some phase → ThreadFault done phase.cycles phase.is_freewheel kept session after
    → HasCome session.script after.desk.history after.driver.numbers
