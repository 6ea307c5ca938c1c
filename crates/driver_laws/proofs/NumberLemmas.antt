-- Lists of numbers that rise, with one more at the end.
--     IsStrictlyIncreasing-push      a number above all of them
--     IsNonDecreasing-push      a number that none of them is above
--     filter-below_next, filter-below_same      the numbers below n + 1 that pass, and two tests that agree below n
use Rattle.std.proofs.Common.{◌≡◌, ℕ, suc, ◌+◌, ◌-◌, ◌<◌, ◌≤◌, ◌⊎◌, inl, inr, Bool, cond, List, [], ◌∷◌, ◌++◌, length, filter, get_or, All, subst, arith}
use Rattle.std.specs.List.Sorted.{IsStrictlyIncreasing, IsNonDecreasing}
use Rattle.std.proofs.Math.Seq.{get_or-append_seam}
use Rattle.std.proofs.lemmas.Bool.{cases_lt}
use Rattle.std.proofs.lemmas.List.{get_or_append_left, length_push}
use Rattle.std.proofs.lemmas.List.Elements.{filter-append}
use Rattle.std.proofs.lemmas.List.Sorted.{IsNonDecreasingBy-push}
use Rattle.record_ring.specs.session_model.specs.Samples.{below}
use Rattle.cycle_plan.specs.session_laws.proofs.ListLemmas.{Each-below, filter-same}

pub IsStrictlyIncreasing-push : (xs : List ℕ) (y : ℕ) → IsStrictlyIncreasing xs → All (λ x. x < y) xs → IsStrictlyIncreasing (xs ++ y ∷ [])
IsStrictlyIncreasing-push xs y rises low k h = go (cases_lt (k + 1) (length xs))
  where
    size : length (xs ++ y ∷ []) ≡ length xs + 1
    size = length_push xs y

    inside : k < length xs
    inside = omega (arith, h, size)

    first : get_or (xs ++ y ∷ []) k 0 ≡ get_or xs k 0
    first = get_or_append_left xs (y ∷ []) 0 k inside

    go : (k + 1 < length xs) ⊎ (length xs ≤ k + 1) → get_or (xs ++ y ∷ []) k 0 < get_or (xs ++ y ∷ []) (k + 1) 0
    go (inl p) =
        let second : get_or (xs ++ y ∷ []) (k + 1) 0 ≡ get_or xs (k + 1) 0 = get_or_append_left xs (y ∷ []) 0 (k + 1) p in
        let old : get_or xs k 0 < get_or xs (k + 1) 0 = rises k p in
        omega (arith, first, second, old)
    go (inr p) =
        let place : length xs ≡ k + 1 = omega (arith, p, inside) in
        let second : get_or (xs ++ y ∷ []) (k + 1) 0 ≡ y = subst (λ m. get_or (xs ++ y ∷ []) m 0 ≡ y) place (get_or-append_seam xs y [] 0) in
        let old : get_or xs k 0 < y = low k 0 inside in
        omega (arith, first, second, old)

pub IsNonDecreasing-push : (xs : List ℕ) (y : ℕ) → IsNonDecreasing xs → All (λ x. x ≤ y) xs → IsNonDecreasing (xs ++ y ∷ [])
IsNonDecreasing-push xs y rises low = IsNonDecreasingBy-push (λ x. x) xs y rises (λ d h. low (length xs - 1) d (omega (arith, h)))

-- n passes, or it does not
pub filter-below_next : (p : ℕ → Bool) (n : ℕ) → filter p (below (suc n)) ≡ filter p (below n) ++ cond (p n) (n ∷ []) []
filter-below_next p n = filter-append p (below n) (n ∷ [])

pub filter-below_same : (p q : ℕ → Bool) (n : ℕ) → ((i : ℕ) → i < n → p i ≡ q i) → filter p (below n) ≡ filter q (below n)
filter-below_same p q n same = filter-same p q (below n) (Each-below (λ i. p i ≡ q i) n same)
