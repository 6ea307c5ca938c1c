-- The parts of an input, gathered eight at a time.
--     gathered-few      where none is summed, all are few
--     gains-four, long-four      four parts that are added at once
--     eight-of      eight parts by their places
use Rattle.std.proofs.Common.{◌≡◌, ℕ, List, [], ◌∷◌, ◌++◌, length, map, get_or, ℤ, refl, ◌∙◌, ap, subst, arith}
use Rattle.client_kinds.specs.port_mixer.specs.Sums.{GainsParts, Mix, with_parts}
use Rattle.client_kinds.specs.port_mixer.proofs.SumLemmas.{length-all_added}
use Rattle.client_benches.specs.Gathered.{AreGathered}

pub gathered-few : (frames : ℕ) (mix : Mix) (few parts : List (List ℤ)) → mix.parts ≡ 0 → AreGathered frames mix few parts → parts ≡ few
gathered-few frames mix few parts none gathered = gathered.all ∙ ap (λ first. first ++ few) (empty gathered.first (gathered.counted ∙ none))
  where
    empty : (xs : List (List ℤ)) → length xs ≡ 0 → xs ≡ []
    empty [] h = refl
    empty (x ∷ xs) h = absurd (omega (arith, h))

-- four parts that fill all frames
pub gains-four : {X : Type 0} (now : X → List ℤ) (xs : List X) (d : X) (frames : ℕ) (before after : List ℤ) → length xs ≡ 4 → length (now (get_or xs 0 d)) ≡ frames
    → GainsParts (length (now (get_or xs 0 d))) before after (now (get_or xs 0 d) ∷ now (get_or xs 1 d) ∷ now (get_or xs 2 d) ∷ now (get_or xs 3 d) ∷ []) → GainsParts frames before after (map now xs)
gains-four now [] d frames before after four long gains = absurd (omega (arith, four))
gains-four now (a ∷ []) d frames before after four long gains = absurd (omega (arith, four))
gains-four now (a ∷ b ∷ []) d frames before after four long gains = absurd (omega (arith, four))
gains-four now (a ∷ b ∷ c ∷ []) d frames before after four long gains = absurd (omega (arith, four))
gains-four now (a ∷ b ∷ c ∷ e ∷ []) d frames before after four long gains = subst (λ n. GainsParts n before after (now a ∷ now b ∷ now c ∷ now e ∷ [])) long gains
gains-four now (a ∷ b ∷ c ∷ e ∷ f ∷ xs) d frames before after four long gains = absurd (omega (arith, four))

pub long-four : {X : Type 0} (now : X → List ℤ) (xs : List X) (d : X) (before after : Mix)
    → after ≡ with_parts before (now (get_or xs 0 d) ∷ now (get_or xs 1 d) ∷ now (get_or xs 2 d) ∷ now (get_or xs 3 d) ∷ []) → length after.sums ≡ length before.sums
long-four now xs d before after is =
    ap (λ (mix : Mix). length mix.sums) is
    ∙ length-all_added before.sums (now (get_or xs 0 d) ∷ now (get_or xs 1 d) ∷ now (get_or xs 2 d) ∷ now (get_or xs 3 d) ∷ [])

-- eight parts
pub eight-of : {X : Type 0} (now : X → List ℤ) (xs : List X) (d : X) → length xs ≡ 8
    → now (get_or xs 0 d) ∷ now (get_or xs 1 d) ∷ now (get_or xs 2 d) ∷ now (get_or xs 3 d) ∷ now (get_or xs 4 d) ∷ now (get_or xs 5 d) ∷ now (get_or xs 6 d) ∷ now (get_or xs 7 d) ∷ [] ≡ map now xs
eight-of now [] d eight = absurd (omega (arith, eight))
eight-of now (a ∷ []) d eight = absurd (omega (arith, eight))
eight-of now (a ∷ b ∷ []) d eight = absurd (omega (arith, eight))
eight-of now (a ∷ b ∷ c ∷ []) d eight = absurd (omega (arith, eight))
eight-of now (a ∷ b ∷ c ∷ e ∷ []) d eight = absurd (omega (arith, eight))
eight-of now (a ∷ b ∷ c ∷ e ∷ f ∷ []) d eight = absurd (omega (arith, eight))
eight-of now (a ∷ b ∷ c ∷ e ∷ f ∷ g ∷ []) d eight = absurd (omega (arith, eight))
eight-of now (a ∷ b ∷ c ∷ e ∷ f ∷ g ∷ h ∷ []) d eight = absurd (omega (arith, eight))
eight-of now (a ∷ b ∷ c ∷ e ∷ f ∷ g ∷ h ∷ i ∷ []) d eight = refl
eight-of now (a ∷ b ∷ c ∷ e ∷ f ∷ g ∷ h ∷ i ∷ j ∷ xs) d eight = absurd (omega (arith, eight))
