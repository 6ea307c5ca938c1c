use Rattle.std.proofs.Common.{◌≡◌}
use Rattle.activation.specs.Seats.{Sits}
use Rattle.cycle_workers.proofs.Going.{Shared}
use Rattle.cycle_workers.proofs.running.run_share.Given as goal

abbrev pub invariant-loop-node : goal.invariant-loop-node
invariant-loop-node g l =
    (l.seat.number ≡ l.fn.seat.number)
    × Sits l.crew.board.shared.table_id l.crew.links.items l.crew.nodes l.crew.seats l.seat.number l.seat.token
    × Shared l.count l.fn.seat.number l.node l.fn.seat.token.me.0.duty l.seat.token.me.0.duty
