use Rattle.std.proofs.Common.{◌≡◌, ◌≤◌, ◌-◌, map, All, vec_capacity, vec_len}
use Rattle.session_laws.specs.session_model.specs.Samples.{below}
use Rattle.activation.specs.Contents.{from_to}
use Rattle.activation.specs.Seats.{IsIdle, IsShare, new_duty}
use Rattle.activation.proofs.making.share.Given as goal

abbrev pub invariant-loop-number : goal.invariant-loop-number
invariant-loop-number g l =
    (l.token.table_id ≡ l.board.shared.table_id)
    × IsIdle l.token.me
    × (l.token.me.0.duty ≡ new_duty l.initial.token.me.0.duty.links l.initial.token.me.0.duty.before l.count (from_to l.number (l.count - l.number)))
    × (map (λ seat. seat.number) l.seats.items ≡ below l.number)
    × All (λ seat. IsShare l.board.shared.table_id l.initial.token.me.0.duty.links l.initial.token.me.0.duty.before l.count seat.number seat.token) l.seats.items
    × (vec_len l.seats ≡ l.number)
    × (l.count ≤ vec_capacity l.seats)
