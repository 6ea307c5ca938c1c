-- Slots that are used in turns: the number p has the slot p modulo the number of slots.
use Rattle.std.proofs.Common.{◌≡◌, ◌≢◌, ℕ, ◌+◌, ◌%◌, ◌<◌, List, length, set, sym, ap, ◌∙◌, arith, length-set}
use mathlib.Core.Option.{Option, some}
use lib.ListN.{get_elem?}
use Rattle.atomic_table.proofs.Lists.{set_else, one_turn}

-- two numbers of one turn have different slots
pub apart : (p q n : ℕ) → p < q → q < p + n → q % n ≢ p % n
apart p q n a b e = let same : p ≡ q = one_turn p q n (omega arith) (omega arith) (sym e) in omega arith

-- a slot that a step does not touch
pub stays_at : {S : Type 0} (hs : List (Option S)) (i q : ℕ) (o : Option S) (x : S) → q % length hs ≢ i → get_elem? hs (q % length hs) ≡ some (some x) → get_elem? (set hs i o) (q % length (set hs i o)) ≡ some (some x)
stays_at hs i q o x ne e = ap (λ (n : ℕ). get_elem? (set hs i o) (q % n)) (length-set hs i o) ∙ (set_else hs i (q % length hs) o ne ∙ e)
