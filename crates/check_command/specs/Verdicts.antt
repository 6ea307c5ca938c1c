-- A verdict: what it says, its line and its status. No public clause cites this module.
--     IsVerdict verdict given written      what it says of a case
--     line_of, status_of verdict      its line and its status
--     answer_of verdict      what a check answers that has no verdict
use Rattle.std.specs.Prelude.{ℕ, List, Result, Ok as Answered, Err}
use Rattle.check_model.specs.Checking.{IsFirstWrong}
use Rattle.session_model.specs.Explanations.{Given, Written}
use Rattle.session_check.specs.declared.verdict.CheckFault.{CheckFault}
use Rattle.session_check.specs.declared.verdict.CheckFault.TheVariants.{Read, Memory}
use Rattle.session_check.specs.declared.verdict.Verdict.{Verdict}
use Rattle.session_check.specs.declared.verdict.Verdict.TheVariants.{Explained as IsRight, Wrong as IsWrong}
use Rattle.play_inputs.specs.declared.status.Status.{Status}
use Rattle.play_inputs.specs.declared.status.Status.TheVariants.{Ok, NoMemory, ReadFault, Wrong}
use Rattle.check_command.specs.Lines.{IsExplained, right_line, wrong_line}

abbrev pub IsVerdict : Verdict → Given → Written → Type 0
IsVerdict IsRight given written = IsExplained given written
IsVerdict (IsWrong row sight) given written = IsFirstWrong given written row

abbrev pub line_of : Verdict → List ℕ
line_of IsRight = right_line
line_of (IsWrong row sight) = wrong_line row

abbrev pub status_of : Verdict → Status
status_of IsRight = Ok
status_of (IsWrong row sight) = Wrong row sight

abbrev pub answer_of : Result Verdict CheckFault → Result Verdict Status
answer_of (Answered verdict) = Answered verdict
answer_of (Err Read) = Err ReadFault
answer_of (Err Memory) = Err NoMemory
