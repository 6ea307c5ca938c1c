use Rattle.std.proofs.Common.{◌≡◌, [], length}
use Rattle.activation.specs.Plays.{with_items}
use Rattle.activation.proofs.Turning.{ArePartBack}
use Rattle.activation.proofs.turns.give_back.Given as goal

abbrev pub invariant-loop-link : goal.invariant-loop-link
invariant-loop-link g l =
    (l.seat.table_id ≡ l.fn.seat.table_id)
    × (l.seat.me ≡ (with_items l.fn.seat.me.0 l.seat.me.0.shelf.items, []))
    × (length l.seat.me.0.shelf.items ≡ length l.fn.seat.me.0.shelf.items)
    × ArePartBack g.B.Work.memory g.B.Work.has_room l.links l.nodes l.link l.fn.seat.me.0.shelf.items l.seat.me.0.shelf.items
