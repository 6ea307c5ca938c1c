-- Lists of two items.
use Rattle.std.proofs.Common.{◌≡◌, ℕ, zero, suc, [], ◌∷◌, sym, subst}
use mathlib.Core.Option.{some, some-injective, some-ne-none}
use lib.ListN.{get_elem?}

-- what holds of the first at 0 and of the second at 1 holds of each item at its place
pub each_of_two : {A : Type 0} (P : ℕ → A → Type 0) (a b : A) → P 0 a → P 1 b → (j : ℕ) (x : A) → get_elem? (a ∷ b ∷ []) j ≡ some x → P j x
each_of_two P a b first second zero x at = subst (λ y. P 0 y) (some-injective a x at) first
each_of_two P a b first second (suc zero) x at = subst (λ y. P 1 y) (some-injective b x at) second
each_of_two P a b first second (suc (suc j)) x at = absurd (some-ne-none x (sym at))
