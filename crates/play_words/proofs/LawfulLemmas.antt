-- Names that are lawful place by place.
--     AreLawful-from_places, AreLawful-at      names are lawful where each place is
--     below-more      what holds below a number and at it holds below the next
use Rattle.std.proofs.Common.{◌≡◌, ℕ, zero, suc, ◌+◌, ◌<◌, ◌≤◌, List, [], ◌∷◌, Contains, get_or, inl, inr, length, sym, subst, ◌∙◌, arith}
use Rattle.std.specs.Prelude.{◌⊎◌}
use Rattle.std.proofs.lemmas.Bool.{cases_lt}
use Rattle.std.proofs.lemmas.List.{get_or_default}
use Rattle.session_model.specs.Soundness.{Apart}
use Rattle.play_words.specs.Lawful.{AreLawful, IsLast, IsLawfulAt}
use Rattle.play_words.specs.Words.{IsName}

apart-from_places : (names : List (List ℕ)) → ((k : ℕ) → k < length names → IsLast names k) → Apart (λ (name : List ℕ). name) names
apart-from_places [] each = tt
apart-from_places (name ∷ names) each = (apart, apart-from_places names (λ k lt other above below. each (suc k) (omega (arith, lt)) (suc other) (omega (arith, above)) (omega (arith, below))))
  where
    apart : (other : List ℕ) → Contains names other → name ≡ other → ⊥
    apart other (k, lt, is) same = each zero (omega arith) (suc k) (omega arith) (omega (arith, lt)) (same ∙ sym is ∙ get_or_default names k other [] lt)

apart-at : (names : List (List ℕ)) → Apart (λ (name : List ℕ). name) names → (k : ℕ) → k < length names → IsLast names k
apart-at [] apart k lt other above below = absurd (omega (arith, lt))
apart-at (name ∷ names) apart k lt zero above below = absurd (omega (arith, above))
apart-at (name ∷ names) apart zero lt (suc other) above below = λ same. apart.0 (get_or names other []) (other, omega (arith, below), get_or_default names other (get_or names other []) [] (omega (arith, below))) same
apart-at (name ∷ names) apart (suc k) lt (suc other) above below = apart-at names apart.1 k (omega (arith, lt)) other (omega (arith, above)) (omega (arith, below))

pub AreLawful-from_places : (names : List (List ℕ)) → ((k : ℕ) → k < length names → IsLawfulAt names k) → AreLawful names
AreLawful-from_places names each =
    record {
      are_names = λ k d lt. subst IsName (get_or_default names k [] d lt) (each k lt).is_name;
      apart = apart-from_places names (λ k lt. (each k lt).is_last);
    }

pub AreLawful-at : (names : List (List ℕ)) → AreLawful names → (k : ℕ) → k < length names → IsLawfulAt names k
AreLawful-at names are k lt = record { is_name = are.are_names k [] lt; is_last = apart-at names are.apart k lt }

-- what holds below a number and at it holds below the next
pub below-more : (P : ℕ → Type 0) (n : ℕ) → ((k : ℕ) → k < n → P k) → P n → (k : ℕ) → k < n + 1 → P k
below-more P n below at k lt = go (cases_lt k n)
  where
    go : (k < n) ⊎ (n ≤ k) → P k
    go (inl less) = below k less
    go (inr more) = let same : n ≡ k = omega (arith, lt, more) in subst P same at
