use Rattle.std.proofs.Common.{◌≡◌, ◌≤◌, ◌<◌, ◌+◌, ℕ, length, take, get_or, vec_capacity}
use Rattle.activation.specs.Contents.{AreValuesOf}
use Rattle.activation.specs.Seats.{IsAt}
use Rattle.activation.proofs.crews.Crew.lift_values.Given as goal

abbrev pub invariant-loop-link : goal.invariant-loop-link
invariant-loop-link g l =
    IsAt l.self.board.shared.table_id l.self.links.items l.self.nodes l.seat
    × (l.seat.me.0.duty ≡ l.initial.seat.me.0.duty)
    × (l.seat.me.0.hand.node ≡ l.node)
    × ((j : ℕ) → l.link-index ≤ j → j < length l.link-items → l.seat.me.0.hand.floor ≤ l.self.nodes + get_or l.link-items j 0)
    × AreValuesOf g.B.Work.memory g.B.Work.has_room g.B.Work.after g.B.Work.gives l.self.links.items l.initial.seat.me.0.duty.before (take l.link-index l.link-items) l.given.items
    × (vec_capacity l.given ≡ vec_capacity l.initial.given)
