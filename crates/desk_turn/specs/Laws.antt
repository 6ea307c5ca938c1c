-- What holds behind the lanes, as the laws state it.
use Rattle.std.specs.Prelude.{◌≡◌, ℕ, ◌≤◌, false, List, length, All, Option}
use Rattle.atomic_table.specs.Seated.{TableId}
use Rattle.control_desk.specs.Desks.{Desk, GoesOn, IsDone}
use Rattle.turn_word.specs.Turns.{AreAll, Handle}
use Rattle.desk_turn.specs.Lanes.{HaveRun}

-- all passes of a turn are all passes of it behind the lanes
abbrev pub AllBehind : Type 0
AllBehind = (table : TableId) (count : ℕ) (opened : Option Desk) (old new : List (Handle Desk)) → HaveRun old new → AreAll table count opened old → AreAll table count opened new

-- where none was told that the work is off, no lane has a call left in a desk that went on from all that they saw
abbrev pub DoneBehind : Type 0
DoneBehind = (old new : List (Handle Desk)) (desk : Desk) → length old ≡ 4 → HaveRun old new → All (λ (pass : Handle Desk). pass.told ≡ false) new
    → All (λ (pass : Handle Desk). All (λ (seen : Desk). GoesOn seen desk) pass.seen) new → (lane : ℕ) → 1 ≤ lane → lane ≤ 4 → IsDone desk lane
