-- What a lane's thread needs, and what it leaves.
--     IsOpen table pass      a pass with which a lane may begin
--     HasStepped lane stepped old new      the pass behind a step of the lane
--     HasRun lane old new      the pass behind all that the lane did
--     HaveRun old new      the four passes behind the lanes
use Rattle.std.specs.Prelude.{◌≡◌, ◌⊎◌, ℕ, suc, ◌<◌, ◌≤◌, true, false, List, ◌∷◌, length, slice_index_or, Contains, Some}
use Rattle.atomic_table.specs.Seated.{TableId}
use Rattle.control_desk.specs.Desks.{Desk, IsDone, Steps}
use Rattle.control_desk.specs.declared.steps.Stepped.{Stepped}
use Rattle.turn_word.specs.Turns.{Handle}

-- a pass of this turn, which is open with a desk in a phase whose group is made, and which does not hold the desk
pub record IsOpen (table : TableId) (pass : Handle Desk) : Type 0 where
  pub table_is : pass.table ≡ table
  pub live : pass.from < pass.to
  pub free : pass.holds ≡ false
  pub opened : Desk
  pub open_is : pass.opened ≡ Some opened
  pub begun : 1 ≤ opened.phase
  pub group : IsDone opened 0

-- a step of this lane was made, on the desk that the pass took, and the pass gave back what it left
pub record HasStepped (lane : ℕ) (stepped : Stepped) (old new : Handle Desk) : Type 0 where
  pub desk : Desk
  pub after : Desk
  pub steps : Steps desk lane stepped after
  pub seen : new ≡ record old { seen = after ∷ desk ∷ old.seen }

-- a pass is as it was, but for what it saw and what it was told
abbrev pub IsAsBefore : Handle Desk → Handle Desk → Type 0
IsAsBefore old new = new ≡ record old { seen = new.seen; told = new.told }

-- the pass saw a desk in which the lane has no call left
abbrev pub HasDone : ℕ → Handle Desk → Type 0
HasDone lane pass = (desk : Desk) × Contains pass.seen desk × IsDone desk lane

-- a lane ends where it has no call left, or where it was told that the work is off
pub record HasRun (lane : ℕ) (old new : Handle Desk) : Type 0 where
  pub as_before : IsAsBefore old new
  pub ended : HasDone lane new ⊎ (new.told ≡ true)

-- lane 1 has the first pass
pub record HaveRun (old new : List (Handle Desk)) : Type 0 where
  pub many : length new ≡ length old
  pub each : (place : ℕ) (d : Handle Desk) → place < length old → HasRun (suc place) (slice_index_or old place d) (slice_index_or new place d)
