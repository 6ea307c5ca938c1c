-- Rings that end one after another.
--     ended_to      so many of them have ended
--     with_rings      the parts of a driver with other rings
--     there, goes      a ring of those that are left is there, and goes on
--     ends-next, ends-all      one more, and all
use Rattle.std.proofs.Common.{◌≡◌, ℕ, zero, suc, ◌+◌, ◌<◌, false, List, [], ◌∷◌, length, map, All, get_or, slice_set, refl, sym, ap, ◌∙◌, subst, arith}
use Rattle.driver_words.specs.Rings.{Sending}
use Rattle.recorder_rings.specs.Sending.{no_ring, ring_at}
use Rattle.cycle_driver.specs.Gears.{Gear}
use Rattle.cycle_driver.specs.Runs.{with_end}

abbrev pub ended_to : ℕ → List Sending → List Sending
ended_to zero rings = rings
ended_to (suc n) [] = []
ended_to (suc n) (ring ∷ rings) = with_end ring ∷ ended_to n rings

ended-next : (n : ℕ) (rings : List Sending) (d : Sending) → n < length rings → slice_set (ended_to n rings) n (with_end (get_or (ended_to n rings) n d)) ≡ ended_to (suc n) rings
ended-next n [] d low = absurd (omega (arith, low))
ended-next zero (ring ∷ rings) d low = refl
ended-next (suc n) (ring ∷ rings) d low = ap (λ (l : List Sending). with_end ring ∷ l) (ended-next n rings d (omega (arith, low)))

ended-all : (rings : List Sending) → ended_to (length rings) rings ≡ map with_end rings
ended-all [] = refl
ended-all (ring ∷ rings) = ap (λ (l : List Sending). with_end ring ∷ l) (ended-all rings)

as-many : (n : ℕ) (rings : List Sending) → length (ended_to n rings) ≡ length rings
as-many zero rings = refl
as-many (suc n) [] = refl
as-many (suc n) (ring ∷ rings) = ap suc (as-many n rings)

not-ended : (n : ℕ) (rings : List Sending) (d : Sending) → n < length rings → get_or (ended_to n rings) n d ≡ get_or rings n d
not-ended n [] d low = absurd (omega (arith, low))
not-ended zero (ring ∷ rings) d low = refl
not-ended (suc n) (ring ∷ rings) d low = not-ended n rings d (omega (arith, low))

abbrev pub with_rings : Gear → List Sending → Gear
with_rings driver rings = record driver { rings = record driver.rings { rings = rings } }

pub there : (first driver : Gear) (n : ℕ) → driver ≡ with_rings first (ended_to n first.rings.rings) → n < length first.rings.rings → n < length driver.rings.rings
there first driver n is low = subst (λ m. n < m) (sym (ap (λ (d : Gear). length d.rings.rings) is ∙ as-many n first.rings.rings)) low

pub goes : (first driver : Gear) (n : ℕ) (lent : Sending) → driver ≡ with_rings first (ended_to n first.rings.rings) → n < length first.rings.rings → All (λ (ring : Sending). ring.ended ≡ false) first.rings.rings
    → lent ≡ ring_at driver.rings n → lent.ended ≡ false
goes first driver n lent is low none lends =
    ap (λ (r : Sending). r.ended) (lends ∙ ap (λ (d : Gear). get_or d.rings.rings n no_ring) is ∙ not-ended n first.rings.rings no_ring low) ∙ none n no_ring low

pub ends-next : (first driver : Gear) (n : ℕ) (lent ended : Sending) → driver ≡ with_rings first (ended_to n first.rings.rings) → n < length first.rings.rings → lent ≡ ring_at driver.rings n → ended ≡ with_end lent
    → with_rings driver (slice_set driver.rings.rings n ended) ≡ with_rings first (ended_to (n + 1) first.rings.rings)
ends-next first driver n lent ended is low lends ends =
    let rings : List Sending = first.rings.rings in
    let here : ended ≡ with_end (get_or (ended_to n rings) n no_ring) = ends ∙ ap with_end (lends ∙ ap (λ (d : Gear). get_or d.rings.rings n no_ring) is) in
    let more : suc n ≡ n + 1 = omega arith in
    ap (λ (d : Gear). with_rings d (slice_set d.rings.rings n ended)) is
    ∙ ap (λ (r : Sending). with_rings first (slice_set (ended_to n rings) n r)) here
    ∙ ap (with_rings first) (ended-next n rings no_ring low)
    ∙ ap (λ m. with_rings first (ended_to m rings)) more

pub ends-all : (first driver : Gear) (n : ℕ) → driver ≡ with_rings first (ended_to n first.rings.rings) → n ≡ length first.rings.rings → driver ≡ with_rings first (map with_end first.rings.rings)
ends-all first driver n is all = is ∙ ap (λ m. with_rings first (ended_to m first.rings.rings)) all ∙ ap (with_rings first) (ended-all first.rings.rings)
