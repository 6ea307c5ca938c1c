use Rattle.std.proofs.Common.{◌≡◌}
use Rattle.cycle_workers.specs.activation.specs.Seats.{Sits}
use Rattle.cycle_workers.specs.activation.specs.Takens.{AreBetween}
use Rattle.cycle_workers.proofs.Going.{Shared}
use Rattle.steal_workers.specs.Steals.{KeepsDeque}
use Rattle.steal_workers.proofs.Offered.{aside}
use Rattle.steal_workers.proofs.stealing.start.Given as goal

abbrev pub invariant-loop-node : goal.invariant-loop-node
invariant-loop-node g l = record {
  number : l.seat.number ≡ l.fn.seat.number;
  sits : Sits l.crew.board.shared.table_id l.crew.links.items l.crew.nodes l.crew.seats l.seat.number l.seat.token;
  shared : Shared l.count l.fn.seat.number l.node l.fn.seat.token.me.0.duty (aside l.seat.token.me.0.duty);
  left : AreBetween 0 l.crew.nodes l.seat.token.me.0.duty.left;
  deque : KeepsDeque l.fn.deque l.deque;
}
