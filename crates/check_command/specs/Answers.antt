-- What a check answers.
--     IsDecided status      there was a verdict, or no memory
--     IsWrongAt row status      it names this row
--     CheckStatus files scores check status      what the files have where it is answered and is not Ok
--     HasCheckRefusal files scores check status      where the host tells its files: what a check must answer
--     PutsVerdict out out_after status      what stands on the sink behind a verdict
--     IsVerdictCut files scores check out out_after      and where it could not be put whole
use Rattle.std.specs.Prelude.{◌≡◌, ℕ, ◌⊎◌, List, take, ⊤, Option, Some, None}
use Rattle.jack_types.specs.declared.replies.Row.{Row}
use Rattle.jack_types.specs.declared.scripts.ScriptFault.{ScriptFault}
use Rattle.check_sights.specs.declared.sights.Sight.{Sight}
use Rattle.jack_host.specs.Bytes.{Gains}
use Rattle.check_model.specs.Checking.{IsFirstWrong}
use Rattle.session_model.specs.Explanations.{Given, Written}
use Rattle.session_model.specs.Kinds.{Sound}
use Rattle.play_words.specs.Checks.{Check}
use Rattle.play_inputs.specs.declared.status.Status.{Status}
use Rattle.play_inputs.specs.declared.status.Status.TheVariants.{Ok, NoMemory, Words, ReadFault, BadWave, BadScript, WriteFault, Differs, Wrong}
use Rattle.play_inputs.specs.Answers.{HasRefusal, PlayStatus}
use Rattle.play_inputs.specs.Inputs.{Files, IfBytes}
use Rattle.check_command.specs.Cases.{IfCase}
use Rattle.check_command.specs.Lines.{IsVerdictLine, right_line, wrong_line}
use Rattle.check_command.specs.Scripts.{IsRefusedScript, IsUndecided, IsWithoutDisks}

abbrev pub IsWrongAt : Row → Status → Type 0
IsWrongAt row status = (sight : Sight) × (status ≡ Wrong row sight)

abbrev pub IsDecided : Status → Type 0
IsDecided Ok = ⊤
IsDecided NoMemory = ⊤
IsDecided Words = ⊥
IsDecided ReadFault = ⊥
IsDecided (BadWave fault) = ⊥
IsDecided (BadScript fault) = ⊥
IsDecided WriteFault = ⊥
IsDecided (Differs difference) = ⊥
IsDecided (Wrong row sight) = ⊤

-- a capture and numbers are refused as by a play, and so is a script, and one with a disk besides
abbrev pub CheckStatus : Option Files → List Sound → Check → Status → Type 0
CheckStatus files scores check Ok = ⊥
CheckStatus files scores check NoMemory = ⊤
CheckStatus files scores check Words = ⊥
CheckStatus files scores check ReadFault = ⊤
CheckStatus files scores check (BadWave fault) = IsWithoutDisks files check.play × PlayStatus files scores check.play (BadWave fault)
CheckStatus files scores check (BadScript fault) = IfBytes files check.play.script (λ bytes. IsRefusedScript bytes fault)
CheckStatus files scores check WriteFault = ⊤
CheckStatus files scores check (Differs difference) = IsWithoutDisks files check.play × PlayStatus files scores check.play (Differs difference)
CheckStatus files scores check (Wrong row sight) = IfCase files scores check (λ given written. IsFirstWrong given written row)

-- what a play refuses, where its script has no disk; or a script that has one
abbrev pub HasCheckRefusal : Option Files → List Sound → Check → Status → Type 0
HasCheckRefusal None scores check status = ⊥
HasCheckRefusal (Some files) scores check status =
    (HasRefusal (Some files) scores check.play status × IsWithoutDisks (Some files) check.play)
    ⊎ ((fault : ScriptFault) × (status ≡ BadScript fault) × IfBytes (Some files) check.play.script (λ bytes. IsUndecided bytes fault))

-- the line of the verdict; of another status this says nothing
abbrev pub PutsVerdict : Option (List ℕ) → Option (List ℕ) → Status → Type 0
PutsVerdict out out_after Ok = Gains out out_after right_line
PutsVerdict out out_after NoMemory = ⊤
PutsVerdict out out_after Words = ⊤
PutsVerdict out out_after ReadFault = ⊤
PutsVerdict out out_after (BadWave fault) = ⊤
PutsVerdict out out_after (BadScript fault) = ⊤
PutsVerdict out out_after WriteFault = ⊤
PutsVerdict out out_after (Differs difference) = ⊤
PutsVerdict out out_after (Wrong row sight) = Gains out out_after (wrong_line row)

-- a front of the line of the verdict that the files have
abbrev pub IsVerdictCut : Option Files → List Sound → Check → Option (List ℕ) → Option (List ℕ) → Type 0
IsVerdictCut files scores check out out_after =
    IfCase files scores check (λ given written. (line : List ℕ) × IsVerdictLine given written line × ((k : ℕ) × Gains out out_after (take k line)))
