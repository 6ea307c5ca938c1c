-- What stands on a disk, and what a file that is written there is to hold.
--     Stays old new, Cuts old new result      the bytes are as they were; or they were given up
--     standing emptied told      what counts as written of a disk's bytes: nothing until those of before were given up
--     with_waiting stands place waits      what stands, with what waits at its place
--     LeavesPart before after left      the first bytes of what was to stand, and behind them what stood
--     LeavesFront whole left      the first bytes of a file
--     IsAsBefore emptied old new      nothing was written, and what stood before the file was made stands
use Rattle.std.specs.Prelude.{◌≡◌, ◌⊎◌, ℕ, Bool, false, cond, List, [], ◌++◌, Some, length, take, drop, MatchResult, Result, option_map, IfSome}
use Rattle.std.specs.declared.option.Option.{Option}
use Rattle.jack_host.specs.Bytes.{Holds, put_at}
use Rattle.jack_host.specs.Files.{IsFrontOf}
use Rattle.jack_host.specs.Told.{BothTold}

-- the bytes are as they were
abbrev pub Stays : Option (List ℕ) → Option (List ℕ) → Type 0
Stays old new = BothTold old new (λ xs ys. ys ≡ xs)

-- no byte is left at `Ok`, and all are at `Err`
abbrev pub Cuts : {T E : Type 0} → Option (List ℕ) → Option (List ℕ) → Result T E → Type 0
Cuts old new result = MatchResult result (λ _. BothTold old new (λ xs ys. ys ≡ [])) (λ _. Stays old new)

-- what counts as written: nothing until the bytes of before were given up
abbrev pub standing : Bool → Option (List ℕ) → Option (List ℕ)
standing emptied told = option_map (λ xs. cond emptied xs []) told

-- what stands, with what waits put at its place
abbrev pub with_waiting : Option (List ℕ) → ℕ → List ℕ → Option (List ℕ)
with_waiting stands place waits = option_map (λ xs. put_at xs place waits) stands

-- the first bytes are those that were to be written, and behind them stand those of before
abbrev pub IsPart : List ℕ → List ℕ → List ℕ → Type 0
IsPart before after left = (m : ℕ) × (left ≡ take m after ++ drop m before)

-- the same, where bytes are told
abbrev pub LeavesPart : Option (List ℕ) → Option (List ℕ) → Option (List ℕ) → Type 0
LeavesPart before after left = BothTold before left (λ xs zs. IfSome after (λ ys. IsPart xs ys zs))

-- what stands are the first bytes of the file, where it tells them
abbrev pub LeavesFront : Option (List ℕ) → Option (List ℕ) → Type 0
LeavesFront whole left = BothTold whole left (λ ys zs. IsFrontOf (Some ys) zs)

-- what stood before the file was made still stands
abbrev pub IsAsBefore : Bool → Option (List ℕ) → Option (List ℕ) → Type 0
IsAsBefore emptied old new = (emptied ≡ false) × Stays old new

-- nothing was added, or all of the piece
abbrev pub StaysOrHolds : Option (List ℕ) → Option (List ℕ) → ℕ → List ℕ → Type 0
StaysOrHolds old new place piece = Stays old new ⊎ Holds old new place piece
