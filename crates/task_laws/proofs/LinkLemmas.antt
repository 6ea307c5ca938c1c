-- How many links there can be between nodes.
--     few-links      distinct upward links between n nodes are at most n(n − 1)/2
use Rattle.std.proofs.Common.{◌≡◌, ◌≢◌, ℕ, zero, suc, ◌+◌, ◌*◌, ◌<◌, ◌≤◌, Bool, true, false, not, ◌==◌, ◌||◌, nat_lt, List, [], ◌∷◌, length, map, filter, All, AllPairs, Contains, refl, sym, ◌∙◌, ap, ap₂, subst, arith, true≢false, eqb-true, ne_eqb, ltb-false}
use Rattle.std.specs.List.{AllByRecursion, IsDistinct, list_any}
use Rattle.std.proofs.Math.Nat.{mul-suc, suc-mul}
use Rattle.std.proofs.lemmas.Bool.{ltb-true}
use Rattle.std.proofs.lemmas.List.{length-map}
use Rattle.std.proofs.lemmas.List.Filters.{length-filter_both}
use Rattle.std.proofs.lemmas.List.Elements.{All-get_or}
use Rattle.std.proofs.lemmas.Map.Steps.{length-le_from_distinct_below}
use Rattle.jack_types.specs.declared.ports.Link.{Link}
use Rattle.driver_laws.specs.session_model.specs.Activation.{AreLinks}
use Rattle.driver_laws.specs.session_laws.proofs.LoopLemmas.{Contains-first, Contains-later}
use Rattle.driver_laws.specs.session_laws.proofs.SoundLemmas.{contains-map}
use Rattle.driver_laws.specs.cycle_plan.specs.Plans.{IsPlanned, Planned}
use Rattle.driver_laws.specs.port_registry.specs.Registered.{open_client, open_clients}
use Rattle.driver_laws.specs.session_laws.proofs.ListLemmas.{Each, Each-contains, Each-filter, Each-filter_kept, Each-from_contains, Each-both, Ordered, Ordered-filter, Ordered-with}

ordered-from_pairs : {X : Type 0} (R : X → X → Type 0) (xs : List X) → AllPairs R xs → Ordered R xs
ordered-from_pairs R [] h = tt
ordered-from_pairs R (x ∷ xs) h = (
  Each-from_contains (R x) xs (λ y m. subst (R x) m.2 (h 0 (suc m.0) y (omega arith) (omega (arith, m.1)))),
  ordered-from_pairs R xs (λ i j d up within. h (suc i) (suc j) d (omega (arith, up)) (omega (arith, within))),
)

each-from_all : {X : Type 0} (P : X → Type 0) (xs : List X) → All P xs → Each P xs
each-from_all P xs h = Each-from_contains P xs (λ x m. subst P m.2 (All-get_or P xs m.0 x m.1 h))

-- the froms of distinct links into one node are distinct
froms-distinct : (links : List Link) → Ordered (λ (a b : Link). a.from ≢ b.from) links → IsDistinct ◌==◌ (map (λ (link : Link). link.from) links)
unfolding IsDistinct
froms-distinct [] h = tt
froms-distinct (link ∷ links) h = (each link links h.0, froms-distinct links h.1)
  where
    each : (a : Link) (bs : List Link) → Each (λ (b : Link). a.from ≢ b.from) bs → AllByRecursion (λ n. (a.from == n) ≡ false) (map (λ (b : Link). b.from) bs)
    each a [] k = tt
    each a (b ∷ bs) k = (ne_eqb a.from b.from k.0, each a bs k.1)

froms-below : (n : ℕ) (links : List Link) → Each (λ (link : Link). link.from < n) links → (q : ℕ) → list_any (λ m. q == m) (map (λ (link : Link). link.from) links) ≡ true → q < n
froms-below n links h q e =
    let w = contains-map (λ (link : Link). link.from) links q (found (map (λ (link : Link). link.from) links) e) in
    subst (λ m. m < n) w.2 (Each-contains (λ (link : Link). link.from < n) links w.0 h w.1)
  where
    found : (ms : List ℕ) → list_any (λ m. q == m) ms ≡ true → Contains ms q
    found [] k = absurd (true≢false (sym k))
    found (m ∷ ms) k = go (q == m) refl k (found ms)
      where
        go : (b : Bool) → (q == m) ≡ b → (b || list_any (λ m. q == m) ms) ≡ true → (list_any (λ m. q == m) ms ≡ true → Contains ms q) → Contains (m ∷ ms) q
        go true t k rest = subst (Contains (m ∷ ms)) (sym (eqb-true q m t)) (Contains-first m ms)
        go false t k rest = Contains-later m q ms (rest k)

few : (n : ℕ) (links : List Link) → Ordered (λ (a b : Link). a ≢ b) links → Each (λ (link : Link). link.from < link.to) links → Each (λ (link : Link). link.to < n) links → 2 * length links + n ≤ n * n
few zero [] apart up within = omega arith
few zero (link ∷ links) apart up within = absurd (omega (arith, within.0))
few (suc n) links apart up within =
    let both : length lower + length last ≡ length links = length-filter_both (λ (link : Link). nat_lt link.to n) (λ (link : Link). not (nat_lt link.to n)) (λ link. refl) links in
    let rest : 2 * length lower + n ≤ n * n = few n lower (Ordered-filter (λ (a b : Link). a ≢ b) (λ (link : Link). nat_lt link.to n) links apart) (Each-filter_kept (λ (link : Link). link.from < link.to) (λ (link : Link). nat_lt link.to n) links up) lower-within in
    let square : suc n * suc n ≡ n * n + n + suc n = suc-mul n (suc n) ∙ ap (λ m. m + suc n) (mul-suc n n) in
    omega (arith, both, rest, square, last-few)
  where
    lower : List Link
    lower = filter (λ (link : Link). nat_lt link.to n) links

    last : List Link
    last = filter (λ (link : Link). not (nat_lt link.to n)) links

    lower-within : Each (λ (link : Link). link.to < n) lower
    lower-within = Each-filter (λ (link : Link). link.to < n) (λ (link : Link). nat_lt link.to n) links (λ link e. ltb-true link.to n e)

    last-there : Each (λ (link : Link). link.to ≡ n) last
    last-there = Each-both (λ (link : Link). link.to < suc n) (λ (link : Link). n ≤ link.to) (λ (link : Link). link.to ≡ n) (λ link low high. omega (arith, low, high)) last
        (Each-filter_kept (λ (link : Link). link.to < suc n) (λ (link : Link). not (nat_lt link.to n)) links within)
        (Each-filter (λ (link : Link). n ≤ link.to) (λ (link : Link). not (nat_lt link.to n)) links (λ link e. ltb-false link.to n (not_true (nat_lt link.to n) e)))
      where
        not_true : (b : Bool) → not b ≡ true → b ≡ false
        not_true true e = absurd (true≢false (sym e))
        not_true false e = refl

    last-froms : Ordered (λ (a b : Link). a.from ≢ b.from) last
    last-froms = Ordered-with (λ (a b : Link). a ≢ b) (λ (a b : Link). a.from ≢ b.from) (λ (link : Link). link.to ≡ n) (λ a b p q differ e. differ (same a b e (p ∙ sym q))) last last-there
        (Ordered-filter (λ (a b : Link). a ≢ b) (λ (link : Link). not (nat_lt link.to n)) links apart)
      where
        same : (a b : Link) → a.from ≡ b.from → a.to ≡ b.to → a ≡ b
        same a b e f = ap₂ (λ from to. record { from = from; to = to }) e f

    last-below : Each (λ (link : Link). link.from < n) last
    last-below = Each-both (λ (link : Link). link.from < link.to) (λ (link : Link). link.to ≡ n) (λ (link : Link). link.from < n) (λ link low same. omega (arith, low, same)) last
        (Each-filter_kept (λ (link : Link). link.from < link.to) (λ (link : Link). not (nat_lt link.to n)) links up) last-there

    last-few : length last ≤ n
    last-few =
        let fewer : length (map (λ (link : Link). link.from) last) ≤ n = length-le_from_distinct_below (map (λ (link : Link). link.from) last) n (froms-distinct last last-froms) (froms-below n last last-below) in
        omega (arith, fewer, length-map last (λ (link : Link). link.from))

pub few-links : (nodes : ℕ) (links : List Link) → AreLinks nodes links → 2 * length links + nodes ≤ nodes * nodes
few-links nodes links are = few nodes links (ordered-from_pairs (λ (a b : Link). a ≢ b) links are.distinct)
    (each-from_all (λ (link : Link). link.from < link.to) links are.upward) (each-from_all (λ (link : Link). link.to < nodes) links are.within)

pub few-plan : (plan : Planned) → IsPlanned plan → 2 * length plan.links + length plan.nodes ≤ length plan.nodes * length plan.nodes
few-plan plan is = subst (λ n. 2 * length plan.links + n ≤ n * n) (length-map plan.nodes open_client) (few-links (length (open_clients plan.nodes)) plan.links is.is_plan.upward)
