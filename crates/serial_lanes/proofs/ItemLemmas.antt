-- Items of lists.
use Rattle.std.proofs.Common.{◌≡◌, ℕ, zero, suc, ◌<◌, List, [], ◌∷◌, ◌++◌, length, take, drop, slice_get, slice_index_or, All, Some, None, refl, sym, ap, arith}
use Rattle.std.proofs.lemmas.List.Elements.{All-cons, All-head, All-nil, All-tail}

pub all-front : {X : Type 0} (P : X → Type 0) (xs ys : List X) → All P (xs ++ ys) → All P xs
all-front P [] ys h = All-nil P
all-front P (x ∷ xs) ys h = All-cons P x xs (All-head P x (xs ++ ys) h) (all-front P xs ys (All-tail P x (xs ++ ys) h))

-- an item at a place within a list
pub some_at : {X : Type 0} (xs : List X) (i : ℕ) → i < length xs → (x : X) × (slice_get xs i ≡ Some x)
some_at [] i h = absurd (omega (arith, h))
some_at (x ∷ xs) zero h = (x, refl)
some_at (x ∷ xs) (suc i) h = some_at xs i (omega (arith, h))

pub there : {X : Type 0} (xs : List X) (r : ℕ) (d : X) → r < length xs → slice_get xs r ≡ Some (slice_index_or xs r d)
there [] r d h = absurd (omega (arith, h))
there (x ∷ xs) zero d h = refl
there (x ∷ xs) (suc r) d h = there xs r d (omega (arith, h))

pub take-whole : {X : Type 0} (xs : List X) → take (length xs) xs ≡ xs
take-whole [] = refl
take-whole (x ∷ xs) = ap (λ ys. x ∷ ys) (take-whole xs)

no-first : {X : Type 0} (x : X) (rest : List X) → [] ≡ x ∷ rest → ⊥
no-first x rest e = cc

-- the item at a place is the first of what is left there
pub first_of_rest : {X : Type 0} (xs : List X) (n : ℕ) (x : X) (rest : List X) → drop n xs ≡ x ∷ rest → slice_get xs n ≡ Some x
first_of_rest [] zero x rest e = absurd (no-first x rest e)
first_of_rest [] (suc n) x rest e = absurd (no-first x rest e)
first_of_rest (y ∷ xs) zero x rest e = ap Some (head e)
  where
    head : {X : Type 0} {y x : X} {xs rest : List X} → y ∷ xs ≡ x ∷ rest → y ≡ x
    head e = cc
first_of_rest (y ∷ xs) (suc n) x rest e = first_of_rest xs n x rest e

-- and what is left behind it
pub rest_behind : {X : Type 0} (xs : List X) (n : ℕ) (x : X) (rest : List X) → drop n xs ≡ x ∷ rest → drop (suc n) xs ≡ rest
rest_behind [] zero x rest e = absurd (no-first x rest e)
rest_behind [] (suc n) x rest e = absurd (no-first x rest e)
rest_behind (y ∷ xs) zero x rest e = tail e
  where
    tail : {X : Type 0} {y x : X} {xs rest : List X} → y ∷ xs ≡ x ∷ rest → xs ≡ rest
    tail e = cc
rest_behind (y ∷ xs) (suc n) x rest e = rest_behind xs n x rest e

-- where nothing is left there is no item
pub none_of_rest : {X : Type 0} (xs : List X) (n : ℕ) → drop n xs ≡ [] → slice_get xs n ≡ None
none_of_rest [] n e = refl
none_of_rest (y ∷ xs) zero e = absurd (no-first y xs (sym e))
none_of_rest (y ∷ xs) (suc n) e = none_of_rest xs n e
