-- What a call that reads words answers.
--     Reads result left read      the value with the words behind it, or the cause, as a reading function gives them
use Rattle.std.specs.Prelude.{◌≡◌, ℕ, List, Result, Ok, Err}
use Rattle.session_model.specs.jack_types.specs.declared.scripts.Cause.{Cause}
use Rattle.session_model.specs.Reading.{Read}

-- the call and the reading function agree: on the value and the words left, or on the cause
abbrev pub Reads : {X : Type 0} → Result X Cause → List (List ℕ) → Read X → Type 0
Reads (Ok x) left read = read ≡ Ok (x, left)
Reads (Err cause) left read = read ≡ Err cause
