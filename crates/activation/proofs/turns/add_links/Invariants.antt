use Rattle.std.proofs.Common.{◌≡◌, ◌≤◌, ℕ, [], length, take}
use lib.ListN.{get_elem?}
use Rattle.session_laws.specs.session_model.specs.Activation.{AreLinks}
use Rattle.activation.specs.Plays.{with_words, with_links}
use Rattle.activation.proofs.turns.add_links.Given as goal

abbrev pub invariant-loop-link : goal.invariant-loop-link
invariant-loop-link g l =
    (l.seat.table_id ≡ l.fn.seat.table_id)
    × (l.seat.me ≡ (with_words (with_links l.fn.seat.me.0 (take l.link-index l.links)) l.seat.me.0.shelf.words, []))
    × (length l.seat.me.0.shelf.words ≡ length l.fn.seat.me.0.shelf.words)
    × ((nodes word : ℕ) → AreLinks nodes l.links → nodes ≤ word → get_elem? l.seat.me.0.shelf.words word ≡ get_elem? l.fn.seat.me.0.shelf.words word)
