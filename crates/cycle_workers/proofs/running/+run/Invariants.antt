use Rattle.std.proofs.Common.{◌≡◌, ◌-◌}
use Rattle.activation.specs.Seats.{Sits}
use Rattle.activation.specs.Takens.{IsPlayed}
use Rattle.cycle_workers.proofs.Going.{Going}
use Rattle.cycle_workers.proofs.running.+run.Given as goal

abbrev pub decreases-run : goal.decreases-run
decreases-run g l = l.crew.now.nodes - l.taken.node

abbrev pub invariant-loop-link : goal.invariant-loop-link
invariant-loop-link g l =
    (l.seat.number ≡ l.fn.seat.number)
    × Sits l.crew.board.shared.table_id l.crew.links.items l.crew.nodes l.crew.seats l.seat.number l.seat.token
    × (l.taken.node ≡ l.fn.taken.node)
    × IsPlayed g.B.Work.memory g.B.Work.has_room g.B.Work.value_at g.B.Work.after g.B.Work.gives l.seat.token.me.0.duty l.taken.node l.taken.tray
    × Going l.crew.links.items l.fn.taken.node l.link-index l.fn.seat.token.me.0.duty l.seat.token.me.0.duty
