-- What a desk's history says of the cycles that its calls waited for.
--     KeepsAsked-met      where desk and driver met, such a call stands behind what its cycle took
use Rattle.std.proofs.Common.{◌≡◌, ◌⊎◌, inl, inr, ℕ, zero, suc, ◌+◌, ◌<◌, ◌≤◌, ◌∷◌, length, map, get_or, take, slice_get, slice_index, Some, refl, sym, ◌∙◌, ap, subst, arith}
use Rattle.std.proofs.lemmas.Bool.{cases_lt}
use Rattle.std.proofs.lemmas.List.{get_or_past}
use Rattle.std.proofs.lemmas.Option.{get_or_from_slice_get, slice_get-get_or, slice_get_within}
use Rattle.session_model.specs.Histories.{KeepsAsked, accepted}
use Rattle.session_model.specs.Samples.{below}
use Rattle.session_laws.proofs.ActivationLemmas.{get_or-map_below, length-map_below}
use Rattle.session_laws.proofs.ListLemmas.{Contains-at, slice_get-map}
use Rattle.graph_word.specs.declared.view.TakenRow.{TakenRow}
use Rattle.graph_word.specs.Publications.{HaveMet}
use Rattle.serial_lanes.specs.control_desk.specs.Desks.{Desk, IsDesk}
use Rattle.driver_laws.specs.Drivers.{Driver, HasOwnRows, run}
use Rattle.run_laws.proofs.PlaceLemmas.{mapped_there}

-- row k is of cycle k + 1
cycle_at : (n k cycle : ℕ) → slice_get (map (λ i. i + 1) (below n)) k ≡ Some cycle → cycle ≡ k + 1
cycle_at n k cycle e =
    let low : k < n = subst (λ m. k < m) (length-map_below (λ i. i + 1) n) (slice_get_within (map (λ i. i + 1) (below n)) k cycle e) in
    sym (get_or_from_slice_get (map (λ i. i + 1) (below n)) k cycle 0 e) ∙ get_or-map_below (λ i. i + 1) n k 0 low

pub KeepsAsked-met : (desk : Desk) (driver : Driver) → IsDesk desk → HasOwnRows driver → HaveMet desk.publishing driver.reading → KeepsAsked desk.script desk.history driver.numbers
KeepsAsked-met desk driver is_desk rows met i entry plan here plan_there asked = go plan.asked refl asked
  where
    goal : ℕ → Type 0
    goal n = slice_index (0 ∷ driver.numbers) n ≤ length (accepted (take i desk.history))

    found : (c : ℕ) → suc c ≡ plan.asked → (c < length driver.numbers) ⊎ (length driver.numbers ≤ c) → goal (suc c)
    found c e (inr past) = let none : slice_index driver.numbers c ≡ 0 = get_or_past driver.numbers c 0 past in omega (arith, none)
    found c e (inl low) =
        let seen = is_desk.seen i entry plan here plan_there asked in
        let number : ℕ = get_or driver.numbers c 0 in
        let number_there : slice_get (map (λ (row : TakenRow). length row.changes) driver.reading.rows) c ≡ Some number = ap (λ ns. slice_get ns c) rows.numbers ∙ slice_get-get_or driver.numbers c 0 low in
        let w = slice_get-map (λ (row : TakenRow). length row.changes) driver.reading.rows c number number_there in
        let row : TakenRow = w.0 in
        let cycle_there : slice_get (map (λ (r : TakenRow). r.cycle) driver.reading.rows) c ≡ Some row.cycle = mapped_there (λ (r : TakenRow). r.cycle) driver.reading.rows c row w.1 in
        let cycle_is : row.cycle ≡ c + 1 = cycle_at (run driver) c row.cycle (sym (ap (λ ns. slice_get ns c) rows.cycles) ∙ cycle_there) in
        let early : row.cycle ≤ seen.0.cycle = omega (arith, cycle_is, e, seen.2) in
        let bound : length row.changes ≤ seen.0.number = met.bounded seen.0 row seen.1 (Contains-at driver.reading.rows c row w.1) early in
        let index : slice_index driver.numbers c ≡ number = refl in
        omega (arith, index, w.2, bound, seen.3)

    go : (n : ℕ) → n ≡ plan.asked → 1 ≤ plan.asked → goal plan.asked
    go zero e h = absurd (omega (arith, e, h))
    go (suc c) e h = subst goal e (found c e (cases_lt c (length driver.numbers)))
