-- Names in a list, and what stands at the places of lists.
--     front-next, front-more      one name more is in front
--     Contains-last, Contains-one      the last is in the list, and one name alone
--     Contains-front      what is in front is in the list
--     last_or      what stands at a place stood there before the last was put, or is the last
--     differ      names that are not equal
use Rattle.std.proofs.Common.{◌≡◌, ℕ, zero, suc, ◌+◌, ◌<◌, Bool, true, false, List, [], ◌∷◌, ◌++◌, length, take, get_or, slice_get, Contains, Some, inl, inr, ◌⊎◌, refl, sym, ap, subst, arith, take-suc}
use Rattle.std.proofs.lemmas.List.{take_more}
use Rattle.std.proofs.lemmas.Option.{none-some, same_Some}
use Rattle.std.specs.Str.{bytes_eq}
use Rattle.session_laws.proofs.CycleLemmas.{bytes_same}
use Rattle.session_laws.proofs.LoopLemmas.{Contains-cases, Contains-first, Contains-later}

pub front-next : (name : List ℕ) (names : List (List ℕ)) (k : ℕ) → k < length names → take (suc (suc k)) (name ∷ names) ≡ take (suc k) (name ∷ names) ++ get_or names k [] ∷ []
front-next name names k low = ap (λ (front : List (List ℕ)). name ∷ front) (take-suc names k [] low)

pub front-more : (name : List ℕ) (names : List (List ℕ)) (k : ℕ) → k < length names → name ∷ take (k + 1) names ≡ take (suc k) (name ∷ names) ++ get_or names k [] ∷ []
front-more name names k low = ap (λ (front : List (List ℕ)). name ∷ front) (take_more names k [] low)

pub differ : (a b : List ℕ) → (a ≡ b → ⊥) → bytes_eq a b ≡ false
differ a b other = go (bytes_eq a b) refl
  where
    go : (test : Bool) → bytes_eq a b ≡ test → test ≡ false
    go true e = absurd (other (bytes_same a b e))
    go false e = refl

module _ {X : Type 0} where
  pub Contains-last : (xs : List X) (x : X) → Contains (xs ++ x ∷ []) x
  Contains-last [] x = Contains-first x []
  Contains-last (y ∷ xs) x = Contains-later y x (xs ++ x ∷ []) (Contains-last xs x)

  pub Contains-one : (x y : X) → Contains (x ∷ []) y → x ≡ y
  Contains-one x y h = go (Contains-cases x y [] h)
    where
      none : {n : ℕ} → n < 0 → ⊥
      none low = omega (arith, low)

      go : (x ≡ y) ⊎ Contains [] y → x ≡ y
      go (inl same) = same
      go (inr there) = absurd (none there.1)

  pub Contains-front : (n : ℕ) (xs : List X) (x : X) → Contains (take n xs) x → Contains xs x
  Contains-front zero xs x h = absurd (none h.1)
    where
      none : h.0 < 0 → ⊥
      none low = omega (arith, low)
  Contains-front (suc n) [] x h = absurd (none h.1)
    where
      none : h.0 < 0 → ⊥
      none low = omega (arith, low)
  Contains-front (suc n) (y ∷ xs) x h = go (Contains-cases y x (take n xs) h) (Contains-front n xs x)
    where
      go : (y ≡ x) ⊎ Contains (take n xs) x → (Contains (take n xs) x → Contains xs x) → Contains (y ∷ xs) x
      go (inl e) behind = subst (λ (z : X). Contains (z ∷ xs) x) (sym e) (Contains-first x xs)
      go (inr m) behind = Contains-later y x xs (behind m)

  pub last_or : (xs : List X) (y : X) (i : ℕ) (x : X) → slice_get (xs ++ y ∷ []) i ≡ Some x → (slice_get xs i ≡ Some x) ⊎ ((i ≡ length xs) × (y ≡ x))
  last_or [] y zero x h = inr (refl, same_Some y x h)
  last_or [] y (suc i) x h = absurd (none-some x h)
  last_or (z ∷ xs) y zero x h = inl h
  last_or (z ∷ xs) y (suc i) x h = go (last_or xs y i x h)
    where
      go : (slice_get xs i ≡ Some x) ⊎ ((i ≡ length xs) × (y ≡ x)) → (slice_get (z ∷ xs) (suc i) ≡ Some x) ⊎ ((suc i ≡ suc (length xs)) × (y ≡ x))
      go (inl before) = inl before
      go (inr last) = inr (ap suc last.0, last.1)
