-- Between the two ways to read a list, `get_elem?` and `get_or`.
use Rattle.std.proofs.Common.{◌≡◌, ℕ, zero, suc, ◌<◌, List, [], ◌∷◌, length, get_or, sym, refl, arith}
use mathlib.Core.Option.{some, some-injective, some-ne-none}
use lib.ListN.{get_elem?}

module _ {A : Type 0} where
  pub at_get : (l : List A) (i : ℕ) (d : A) → i < length l → get_elem? l i ≡ some (get_or l i d)
  at_get [] i d h = absurd (omega arith)
  at_get (x ∷ xs) zero d h = refl
  at_get (x ∷ xs) (suc i) d h = at_get xs i d (omega arith)

  pub get_at : (l : List A) (i : ℕ) (a d : A) → get_elem? l i ≡ some a → get_or l i d ≡ a
  get_at [] i a d e = absurd (some-ne-none a (sym e))
  get_at (x ∷ xs) zero a d e = some-injective x a e
  get_at (x ∷ xs) (suc i) a d e = get_at xs i a d e

  pub inside : (l : List A) (i : ℕ) (a : A) → get_elem? l i ≡ some a → i < length l
  inside [] i a e = absurd (some-ne-none a (sym e))
  inside (x ∷ xs) zero a e = omega arith
  inside (x ∷ xs) (suc i) a e = let h = inside xs i a e in omega arith
