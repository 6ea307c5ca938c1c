-- What is noted of the calls of a report.
--     Heard      the refused calls that are noted, and how many calls there were and were refused
--     heard_with heard line      what is noted behind a further line
--     is_call line, may_follow line      whether it is the line of a call; whether lines of calls may stand behind it
use Rattle.std.specs.Prelude.{ℕ, ◌+◌, ◌-◌, ◌^◌, ◌==◌, ◌||◌, min, Bool, List, [], ◌∷◌, ◌++◌, codes, drop, find, length, nat_lt, slice_index_or, Option, Some, None, Result, Ok, Err, if◌then◌else◌}
use Rattle.std.specs.Str.{bytes_eq}
use Rattle.jack_types.specs.Refusals.{refusal_number}
use Rattle.jack_types.specs.declared.replies.Refusal.{Refusal}
use Rattle.jack_types.specs.declared.replies.Refusal.TheVariants.{NoClient, NoPort, IsOpen, IsSystem, NameTaken, AlreadyActive, NotActive, ClientsFull, PortsFull, NoSource, NoDestination, NotOutput, NotInput, TypeDiffers, Inactive, Exists, Full, NotConnected, Busy, NotMaster, InUse}
use Rattle.jack_types.specs.declared.scripts.Cause.{Cause}
use Rattle.jack_types.specs.declared.scripts.Cause.TheVariants.{Unknown}
use Rattle.refused_calls.specs.declared.notes.Refused.{Refused}
use Rattle.session_model.specs.Reading.{◌>>=◌, Read, Reader, any_number, word}
use Rattle.session_model.specs.Texts.{words}

pub record Heard : Type 0 where
  pub first : List Refused
  pub refused : ℕ
  pub calls : ℕ

-- a line whose first word is `call`
abbrev pub is_call : List ℕ → Bool
is_call line = bytes_eq (slice_index_or (words line) 0 []) (codes "call")

-- the report's title and the lines of calls stand before all others
abbrev pub may_follow : List ℕ → Bool
may_follow line = is_call line || bytes_eq (slice_index_or (words line) 0 []) (codes "report")

-- every cause of a refusal
abbrev pub refusals : List Refusal
refusals = NoClient ∷ NoPort ∷ IsOpen ∷ IsSystem ∷ NameTaken ∷ AlreadyActive ∷ NotActive ∷ ClientsFull ∷ PortsFull ∷ NoSource ∷ NoDestination ∷ NotOutput ∷ NotInput ∷ TypeDiffers ∷ Inactive ∷ Exists ∷ Full ∷ NotConnected ∷ Busy ∷ NotMaster ∷ InUse ∷ []

-- the word `refused`, and no other
abbrev pub refused_word : List ℕ → Result (List ℕ) Cause
refused_word text = if bytes_eq text (codes "refused") then Ok text else Err Unknown

abbrev pub known : Option Refusal → Result Refusal Cause
known None = Err Unknown
known (Some refusal) = Ok refusal

-- the refusal of a number
abbrev pub refusal_at : ℕ → Option Refusal
refusal_at number = find (λ refusal. refusal_number refusal == number) refusals

-- the refused call that the words behind `call` tell of
abbrev pub refused_call : Reader Refused
refused_call words = do
  lane ← any_number words
  index ← any_number lane.1
  answer ← word index.1
  said ← refused_word answer.0
  number ← any_number answer.1
  refusal ← known (refusal_at number.0)
  Ok (record { lane = lane.0; index = index.0; refusal = refusal }, number.1)

-- one more, up to the end of the type
abbrev pub counted : ℕ → ℕ
counted count = min (count + 1) (2 ^ 64 - 1)

-- a refused call more, where fewer than 20 are noted
abbrev pub noted : List Refused → Refused → List Refused
noted first call = if nat_lt (length first) 20 then first ++ call ∷ [] else first

-- a call more, which is noted where it was refused
abbrev pub called : Heard → Read Refused → Heard
called heard (Ok read) = record { first = noted heard.first read.0; refused = counted heard.refused; calls = counted heard.calls }
called heard (Err cause) = record { first = heard.first; refused = heard.refused; calls = counted heard.calls }

abbrev pub heard_with : Heard → List ℕ → Heard
heard_with heard line = if is_call line then called heard (refused_call (drop 1 (words line))) else heard
