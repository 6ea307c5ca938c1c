use Rattle.std.proofs.Common.{◌≡◌, ◌<◌, ◌-◌, ℕ, map, get_or}
use Rattle.session_laws.specs.session_model.specs.Samples.{below}
use Rattle.activation.specs.declared.takens.Seat.{Seat}
use Rattle.activation.specs.Contents.{from_to}
use Rattle.activation.specs.Seats.{IsIdle, IsShare, new_duty}
use Rattle.activation.proofs.crews.Crew.deal.Given as goal

abbrev pub invariant-loop-number : goal.invariant-loop-number
invariant-loop-number g l =
    (l.token.table_id ≡ l.self.board.shared.table_id)
    × IsIdle l.token.me
    × (l.token.me.0.duty ≡ new_duty l.initial.token.me.0.duty.links l.initial.token.me.0.duty.before l.self.seats (from_to l.number (l.self.seats - l.number)))
    × (map (λ seat. seat.number) l.seats ≡ below l.self.seats)
    × ((k : ℕ) (d : Seat g.row.B.Denot g.row.B-Value.Denot g.row.B-Memory.Denot) → k < l.number → IsShare l.self.board.shared.table_id l.initial.token.me.0.duty.links l.initial.token.me.0.duty.before l.self.seats k (get_or l.seats k d).token)
