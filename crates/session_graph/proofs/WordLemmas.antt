-- The words of the command.
--     one-item, first-four      the texts of a list of one item, and of four and more
use Rattle.std.proofs.Common.{◌≡◌, ℕ, ◌<◌, ◌≤◌, List, [], ◌∷◌, get_or, length, map, refl, arith}

pub one-item : {X : Type 0} (f : X → List ℕ) (xs : List X) (a : X) → 1 ≤ length xs → length xs < 2 → a ≡ get_or xs 0 a → map f xs ≡ f a ∷ []
one-item f [] a many few e = absurd (omega (arith, many))
one-item f (v ∷ []) a many few e = rw e refl
one-item f (v ∷ w ∷ xs) a many few e = absurd (omega (arith, few))
