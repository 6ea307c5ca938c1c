-- What a call that reads lines answers.
--     ReadsLine result left read      the value and the lines behind it, or the fault, as a reading function gives them
use Rattle.std.specs.Prelude.{◌≡◌, ◌≢◌, ℕ, List, Result, Ok, Err}
use Rattle.jack_types.specs.declared.scripts.Cause.{Cause}
use Rattle.jack_types.specs.declared.scripts.Cause.TheVariants.{Memory}
use Rattle.jack_types.specs.declared.scripts.ScriptFault.{ScriptFault}
use Rattle.grammar_laws.specs.session_model.specs.Reading.{◌>>=◌, Reader, LineRead, whole}
use Rattle.grammar_laws.specs.session_model.specs.Texts.{Line}

-- the call and the reading function agree: on the value, as it is seen, and the lines left, or on the fault
abbrev pub ReadsLine : {X : Type 0} → Result X ScriptFault → List Line → LineRead X → Type 0
ReadsLine (Ok x) left read = read ≡ Ok (x, left)
ReadsLine (Err fault) left read = read ≡ Err fault

-- the same of a call that takes memory: want of memory is free
abbrev pub ReadsLineBy : {X Y : Type 0} → (X → Y) → Result X ScriptFault → List Line → LineRead Y → Type 0
ReadsLineBy view (Ok x) left read = read ≡ Ok (view x, left)
ReadsLineBy view (Err fault) left read = fault.cause ≢ Memory → read ≡ Err fault

-- what is read, with no word left over
abbrev pub wholly : {X : Type 0} → Reader X → List (List ℕ) → Result X Cause
wholly reader words = reader words >>= whole
