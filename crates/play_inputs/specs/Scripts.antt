-- The script of a play, as it was read.
--     RefusesBytes bytes status      what a status says of bytes that are not one
--     ScriptStatus files name status      what a status says that ended the reading of a script
use Rattle.std.specs.Prelude.{◌≡◌, ◌⊎◌, ℕ, List, ⊤, Option, Some}
use Rattle.jack_types.specs.declared.scripts.Cause.{Cause}
use Rattle.jack_types.specs.declared.scripts.Cause.TheVariants as cause
use Rattle.jack_types.specs.declared.scripts.ScriptFault.{ScriptFault}
use Rattle.session_model.specs.Reading.{script_fault}
use Rattle.play_inputs.specs.declared.status.Status.{Status}
use Rattle.play_inputs.specs.declared.status.Status.TheVariants.{Ok, NoMemory, Words, ReadFault, BadWave, BadScript, WriteFault, Differs, Wrong}
use Rattle.play_inputs.specs.Inputs.{Files, IfBytes, IsBadScript}

-- want of memory, or a fault of theirs
abbrev pub RefusesBytes : List ℕ → Status → Type 0
RefusesBytes bytes status = (status ≡ NoMemory) ⊎ ((fault : ScriptFault) × (status ≡ BadScript fault) × (script_fault bytes ≡ Some fault))

-- want of memory is no fault of the bytes
abbrev pub status_of_cause : Cause → ScriptFault → Status
status_of_cause cause.Header fault = BadScript fault
status_of_cause cause.Unknown fault = BadScript fault
status_of_cause cause.Words fault = BadScript fault
status_of_cause cause.Number fault = BadScript fault
status_of_cause (cause.Range given least most) fault = BadScript fault
status_of_cause (cause.Name name) fault = BadScript fault
status_of_cause (cause.Choice given) fault = BadScript fault
status_of_cause (cause.Lane before given) fault = BadScript fault
status_of_cause (cause.TooMany many limit) fault = BadScript fault
status_of_cause cause.TooLong fault = BadScript fault
status_of_cause cause.Memory fault = NoMemory

abbrev pub status_of_script : ScriptFault → Status
status_of_script fault = status_of_cause fault.cause fault

abbrev pub ScriptStatus : Option Files → List ℕ → Status → Type 0
ScriptStatus files name Ok = ⊥
ScriptStatus files name NoMemory = ⊤
ScriptStatus files name Words = ⊥
ScriptStatus files name ReadFault = ⊤
ScriptStatus files name (BadWave fault) = ⊥
ScriptStatus files name (BadScript fault) = IfBytes files name (λ bytes. IsBadScript bytes fault)
ScriptStatus files name WriteFault = ⊥
ScriptStatus files name (Differs difference) = ⊥
ScriptStatus files name (Wrong row sight) = ⊥
