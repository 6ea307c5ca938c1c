use Rattle.std.proofs.Common.{◌≡◌, ◌≤◌, ◌<◌, ◌+◌, ℕ, true, length, get_or, None, vec_capacity}
use Rattle.activation.specs.Rule.{has}
use Rattle.activation.specs.Seats.{IsAt}
use Rattle.activation.proofs.crews.Crew.put_back_values.Given as goal

abbrev pub invariant-loop-i : goal.invariant-loop-i
invariant-loop-i g l =
    IsAt l.self.board.shared.table_id l.self.links.items l.self.nodes l.seat
    × (l.seat.me.0.duty ≡ l.initial.seat.me.0.duty)
    × ((j : ℕ) → j < l.i → has l.seat.me.0.hand.back (l.self.nodes + get_or l.link-items j 0) ≡ true)
    × (length l.given.items ≡ length l.initial.given.items)
    × ((j : ℕ) → l.i ≤ j → get_or l.given.items j None ≡ get_or l.initial.given.items j None)
    × (vec_capacity l.given ≡ vec_capacity l.initial.given)
