use Rattle.std.proofs.Common.{◌≡◌}
use Rattle.cycle_workers.specs.activation.specs.Seats.{Sits}
use Rattle.steal_workers.proofs.Offered.{Sweeping}
use Rattle.steal_workers.proofs.stealing.sweep.Given as goal

abbrev pub invariant-loop-node : goal.invariant-loop-node
invariant-loop-node g l = record {
  number : l.seat.number ≡ l.fn.seat.number;
  sits : Sits l.crew.board.shared.table_id l.crew.links.items l.crew.nodes l.crew.seats l.seat.number l.seat.token;
  sweeping : Sweeping l.crew.nodes l.node l.fn.seat.token.me.0.duty l.seat.token.me.0.duty;
}
