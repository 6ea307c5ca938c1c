-- How a call answers a command.
--     Answers refusal result      done exactly where nothing refuses, else the first refusal; want of memory only where nothing refuses
--     AnswersExactly refusal result      the same of a call that takes no memory
--     IsMemory result      there was no memory
use Rattle.std.specs.Prelude.{◌≡◌, Option, Some, None, Result, Ok, Err}
use Rattle.session_laws.specs.jack_types.specs.declared.replies.No.{No}
use Rattle.session_laws.specs.jack_types.specs.declared.replies.No.TheVariants.{Refused, Memory}
use Rattle.session_laws.specs.jack_types.specs.declared.replies.Refusal.{Refusal}

abbrev pub Answers : {T : Type 0} → Option Refusal → Result T No → Type 0
Answers refusal (Ok _) = refusal ≡ None
Answers refusal (Err (Refused given)) = refusal ≡ Some given
Answers refusal (Err Memory) = refusal ≡ None

abbrev pub AnswersExactly : {T : Type 0} → Option Refusal → Result T Refusal → Type 0
AnswersExactly refusal (Ok _) = refusal ≡ None
AnswersExactly refusal (Err given) = refusal ≡ Some given

abbrev pub IsMemory : {T : Type 0} → Result T No → Type 0
IsMemory {T} result = result ≡ Err Memory
