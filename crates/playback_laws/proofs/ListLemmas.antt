-- Lists of samples, and what a list was made of.
--     sample-lacking      a list that is not there is silent, whatever stands for it
--     Contains-made      what was made was made of an element
use Rattle.std.proofs.Common.{◌≡◌, ℕ, zero, suc, ◌<◌, List, [], ◌∷◌, filter_map, get_or, Contains, ℤ, Option, Some, None, inl, inr, refl, ◌∙◌, ap, arith}
use Rattle.std.specs.List.{cons_option}
use Rattle.session_model.specs.Samples.{sample, silence}
use Rattle.session_laws.proofs.LoopLemmas.{Contains-cases, Contains-first, Contains-later}
use Rattle.session_laws.proofs.PlaceLemmas.{sample-silence}

pub sample-lacking : (lists : List (List ℤ)) (j frames i : ℕ) → sample (get_or lists j []) i ≡ sample (get_or lists j (silence frames)) i
sample-lacking [] j frames i = sample-silence frames i
sample-lacking (samples ∷ lists) zero frames i = refl
sample-lacking (samples ∷ lists) (suc j) frames i = sample-lacking lists j frames i

nothing : {n : ℕ} → n < 0 → ⊥
nothing h = omega (arith, h)

pub Contains-made : {X Y : Type 0} (made : X → Option Y) (xs : List X) (y : Y) → Contains (filter_map made xs) y → (x : X) × Contains xs x × (made x ≡ Some y)
Contains-made made [] y m = absurd (nothing m.1)
Contains-made {X} {Y} made (x ∷ xs) y m = go (made x) refl m (λ n. Contains-made made xs y n)
  where
    go : (one : Option Y) → made x ≡ one → Contains (cons_option one (filter_map made xs)) y → (Contains (filter_map made xs) y → (z : X) × Contains xs z × (made z ≡ Some y)) → (z : X) × Contains (x ∷ xs) z × (made z ≡ Some y)
    go None e n later = let found = later n in (found.0, Contains-later x found.0 xs found.1, found.2)
    go (Some z) e n later = elim (Contains-cases z y (filter_map made xs) n) [
      | inl same ↦ (x, Contains-first x xs, e ∙ ap Some same)
      | inr there ↦ let found = later there in (found.0, Contains-later x found.0 xs found.1, found.2)
    ]
