-- Values without a gap stand at the places of their options.
use Rattle.std.proofs.Common.{◌≡◌, ℕ, zero, suc, ◌<◌, ◌≤◌, List, [], ◌∷◌, length, get_or, All, IsSome, Option, Some, None, refl, sym, ◌∙◌, arith, true≢false}
use Rattle.std.proofs.lemmas.List.Elements.{All-tail, All-head}
use Rattle.std.proofs.lemmas.Option.{same_Some}
use Rattle.activation.specs.Values.{values_of}

none_below : {n : ℕ} → n < 0 → ⊥
none_below p = omega arith

pub value_there : {W : Type 0} (given : List (Option W)) (i : ℕ) (x : Option W) (value d : W) → All IsSome given → i < length given → x ≡ get_or given i x → x ≡ Some value → get_or (values_of given) i d ≡ value
value_there [] i x value d h l r e = absurd (none_below l)
value_there (None ∷ given) i x value d h l r e = absurd (true≢false (sym (All-head IsSome None given h)))
value_there (Some w ∷ given) zero x value d h l r e = same_Some w value (sym r ∙ e)
value_there (Some w ∷ given) (suc i) x value d h l r e = value_there given i x value d (All-tail IsSome (Some w) given h) (omega (arith, l)) r e

pub value_past : {W : Type 0} (given : List (Option W)) (i : ℕ) (d : W) → All IsSome given → length given ≤ i → get_or (values_of given) i d ≡ d
value_past [] i d h l = refl
value_past (None ∷ given) i d h l = absurd (true≢false (sym (All-head IsSome None given h)))
value_past (Some w ∷ given) zero d h l = absurd (none l)
  where
    none : length (Some w ∷ given) ≤ 0 → ⊥
    none p = omega (arith, p)
value_past (Some w ∷ given) (suc i) d h l = value_past given i d (All-tail IsSome (Some w) given h) (omega (arith, l))
