use Rattle.std.proofs.Common.{◌≡◌, ◌≤◌, ℕ, map, length, get_or}
use Rattle.activation.specs.declared.takens.Seat.{Seat}
use Rattle.activation.proofs.Gathered.{Joined}
use Rattle.activation.proofs.crews.Crew.gather.Given as goal

abbrev pub invariant-loop-number : goal.invariant-loop-number
invariant-loop-number g l =
    (1 ≤ l.number)
    × (l.number ≤ length l.fn.seats)
    × (length l.seats ≡ length l.fn.seats)
    × (map (λ seat. seat.number) l.seats ≡ map (λ seat. seat.number) l.fn.seats)
    × ((k : ℕ) (d : Seat g.row.B.Denot g.row.B-Value.Denot g.row.B-Memory.Denot) → l.number ≤ k → get_or l.seats k d ≡ get_or l.fn.seats k d)
    × Joined l.self.board.shared.table_id l.self.links.items l.self.nodes l.self.seats l.fn.seats l.number l.one
