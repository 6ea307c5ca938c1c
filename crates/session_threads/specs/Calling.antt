-- The right to call the work of a segment off, which the driver's thread has. No public clause cites this module.
--     IsOfTurn turn caller      it is of this turn
--     HasKept caller after ran      behind the work it is the same one, and was used only where the work failed
use Rattle.std.specs.Prelude.{◌≡◌, Option, OnOk, Result}
use Rattle.session_works.specs.DeskWords.{Desk}
use Rattle.turn_word.specs.Turns.{Caller, IsCaller, Lock}

abbrev pub IsOfTurn : Lock → Caller Desk → Type 0
IsOfTurn turn caller = (opened : Option Desk) × IsCaller turn.table turn.passes opened caller

pub record HasKept {E : Type 0} (caller after : Caller Desk) (ran : Result (Unit {0}) E) : Type 0 where
  pub same : after ≡ record caller { called = after.called }
  pub quiet : OnOk ran (after ≡ caller)
