use Rattle.std.proofs.Common.{◌≡◌, ◌≤◌, ◌+◌, ◌++◌, ℕ, List, [], length, map, take}
use lib.ListN.{get_elem?}
use Rattle.activation.specs.Plays.{with_words}
use Rattle.activation.proofs.opening.set_counters.Given as goal

abbrev pub invariant-loop-node : goal.invariant-loop-node
invariant-loop-node g l =
    (l.seat.table_id ≡ l.initial.seat.table_id)
    × (l.seat.me ≡ (with_words l.initial.seat.me.0 l.seat.me.0.shelf.words, []))
    × ((others : List ℕ) × (l.seat.me.0.shelf.words ≡ map (λ links. length links.items + 1) (take l.node l.into) ++ others) × (length l.into ≤ l.node + length others))
    × ((word : ℕ) → length l.into ≤ word → get_elem? l.seat.me.0.shelf.words word ≡ get_elem? l.initial.seat.me.0.shelf.words word)
