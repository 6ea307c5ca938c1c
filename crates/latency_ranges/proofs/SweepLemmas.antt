-- A table that is gone over place by place.
--     not-true      a test that is not passed
--     have_ids-more      the ids up to one place more
--     shown-kept      what stands at ports that are left as they are
--     shown-more      the ranges up to one place more
--     shown-all      all places are gone over
use Rattle.std.proofs.Common.{◌≡◌, ℕ, ◌+◌, ◌^◌, ◌<◌, ◌≤◌, ◌⊎◌, inl, inr, Bool, true, false, not, refl, List, length, slice_get, get_or, Some, sym, ◌∙◌, ap, arith}
use Rattle.std.proofs.lemmas.Bool.{cases_eq}
use Rattle.std.proofs.lemmas.Option.{slice_get_within}
use Rattle.jack_types.specs.declared.ports.Port.{Port}
use Rattle.jack_types.specs.declared.ports.Range.{Range}
use Rattle.session_model.specs.Latencies.{no_range}
use Rattle.latency_ranges.specs.Tables.{HaveIds, IsSameElsewhere, IsShownBelow, Shows}

pub not-true : (b : Bool) → not b ≡ true → b ≡ false
not-true true h = sym h
not-true false h = refl

pub have_ids-more : (ports : List Port) (place : ℕ) → ((port : Port) → slice_get ports place ≡ Some port → port.id.0 < 2 ^ 16) → HaveIds place ports → HaveIds (place + 1) ports
have_ids-more ports place here before k port low at = go (cases_eq k place)
  where
    go : (k ≡ place) ⊎ (k ≡ place → ⊥) → port.id.0 < 2 ^ 16
    go (inl e) = here port (ap (slice_get ports) (sym e) ∙ at)
    go (inr apart) = before k port (less k place low apart) at
      where
        less : (a b : ℕ) → a < b + 1 → (a ≡ b → ⊥) → a < b
        less a b p q = grind (arith)

module _ (ports : List Port) (test : Port → Bool) (range : Port → Range) where
  pub shown-kept : (place : ℕ) (old new : List Range) → IsSameElsewhere place old new → ((port : Port) → slice_get ports place ≡ Some port → test port ≡ true → new ≡ old)
      → Shows test range ports old → Shows test range ports new
  shown-kept place old new elsewhere here shown k port at t = go (cases_eq k place)
    where
      go : (k ≡ place) ⊎ (k ≡ place → ⊥) → get_or new k no_range ≡ range port
      go (inl e) = ap (λ (table : List Range). get_or table k no_range) (here port (ap (slice_get ports) (sym e) ∙ at) t) ∙ shown k port at t
      go (inr apart) = elsewhere k apart ∙ shown k port at t

  pub shown-more : (place : ℕ) (old new : List Range) → IsSameElsewhere place old new
      → ((port : Port) → slice_get ports place ≡ Some port → test port ≡ true → get_or new place no_range ≡ range port)
      → IsShownBelow place test range ports old → IsShownBelow (place + 1) test range ports new
  shown-more place old new elsewhere here shown k port low at t = go (cases_eq k place)
    where
      go : (k ≡ place) ⊎ (k ≡ place → ⊥) → get_or new k no_range ≡ range port
      go (inl e) = ap (λ n. get_or new n no_range) e ∙ here port (ap (slice_get ports) (sym e) ∙ at) t
      go (inr apart) = elsewhere k apart ∙ shown k port (less k place low apart) at t
        where
          less : (a b : ℕ) → a < b + 1 → (a ≡ b → ⊥) → a < b
          less a b p q = grind (arith)

  pub shown-all : (n : ℕ) (table : List Range) → length ports ≤ n → IsShownBelow n test range ports table → Shows test range ports table
  shown-all n table h shown k port at t = let low : k < length ports = slice_get_within ports k port at in shown k port (omega (arith, low, h)) at t
