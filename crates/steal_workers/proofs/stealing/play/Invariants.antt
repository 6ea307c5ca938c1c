use Rattle.std.proofs.Common.{◌≡◌}
use Rattle.cycle_workers.specs.activation.specs.Seats.{Sits}
use Rattle.cycle_workers.specs.activation.specs.Takens.{IsPlayed}
use Rattle.cycle_workers.proofs.Going.{Going}
use Rattle.steal_workers.specs.Steals.{KeepsDeque, LeavesAbove}
use Rattle.steal_workers.proofs.Offered.{beside}
use Rattle.steal_workers.proofs.stealing.play.Given as goal

abbrev pub invariant-loop-link : goal.invariant-loop-link
invariant-loop-link g l = record {
  number : l.seat.number ≡ l.fn.seat.number;
  sits : Sits l.crew.board.shared.table_id l.crew.links.items l.crew.nodes l.crew.seats l.seat.number l.seat.token;
  same : l.taken.node ≡ l.fn.taken.node;
  played : IsPlayed g.B.Work.memory g.B.Work.has_room g.B.Work.value_at g.B.Work.after g.B.Work.gives l.seat.token.me.0.duty l.taken.node l.taken.tray;
  going : Going l.crew.links.items l.fn.taken.node l.link-index l.fn.seat.token.me.0.duty (beside l.fn.seat.token.me.0.duty l.seat.token.me.0.duty);
  deque : KeepsDeque l.fn.deque l.deque;
  left : LeavesAbove l.fn.taken.node l.crew.nodes l.fn.seat.token.me.0.duty.left l.seat.token.me.0.duty.left;
}
