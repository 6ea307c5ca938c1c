-- The calls of a lane come in their order.
use Rattle.std.proofs.Common.{All, get_or, ◌≡◌, ℕ, zero, suc, ◌+◌, ◌*◌, ◌<◌, ◌≤◌, cond, ◌==◌, count_by, List, [], ◌∷◌, ◌++◌, length, map, take, slice_get, Contains, Some, refl, sym, ap, subst, arith, eq-eqb, eqb-true, ◌⊎◌, inl, inr}
use Rattle.std.proofs.lemmas.List.Elements.{All-head, All-tail}
use Rattle.std.proofs.lemmas.List.Sums.{sum_by_push}
use Rattle.jack_types.specs.declared.commands.Call.{Call}
use Rattle.jack_types.specs.declared.commands.Command.{Command}
use Rattle.jack_types.specs.declared.replies.Entry.{Entry}
use Rattle.session_model.specs.Grammar.{IsScript}
use Rattle.session_model.specs.Histories.{calls_of}
use Rattle.session_model.specs.Scripts.{Script, Phase, LaneCall, Planned, Uncounted, counted, phases, planned, planned_of, uncounted}
use Rattle.session_laws.proofs.ListLemmas.{Each, Ordered, Each-all, Each-append, Each-contains, Each-map, Each-weaker, Ordered-any, Ordered-append, Ordered-filter}
use Rattle.session_laws.proofs.CycleLemmas.{filter-passes}
use Rattle.session_laws.proofs.LoopLemmas.{Contains-first, Contains-later, Contains-cases}
use Rattle.session_laws.proofs.SerialCallsLemmas.{dos_of, calls_at, stage_later, Ordered-counted, Each-counted, planned_lanes}
use Rattle.session_laws.proofs.SerialLawfulLemmas.{KeepsLanes-phases}
use Rattle.call_laws.proofs.ItemLemmas.{contained, none-some}

-- along a lane the index rises
abbrev pub Rises : Call → Call → Type 0
Rises a b = a.lane ≡ b.lane → a.index < b.index

abbrev pub earlier_in : ℕ → List Uncounted → ℕ
earlier_in lane us = count_by (λ (other : Uncounted). other.lane == lane) us

pub earlier_more : (lane : ℕ) (us : List Uncounted) (u : Uncounted) → earlier_in lane (us ++ u ∷ []) ≡ earlier_in lane us + cond (u.lane == lane) 1 0
earlier_more lane us u = sum_by_push (λ (other : Uncounted). cond (other.lane == lane) 1 0) us u

pub counted_index : (earlier us : List Uncounted) → Each (λ (plan : Planned). earlier_in plan.call.lane earlier < plan.call.index) (counted earlier us)
counted_index earlier [] = tt
counted_index earlier (u ∷ us) = (
  omega arith,
  Each-weaker (λ (plan : Planned). earlier_in plan.call.lane (earlier ++ u ∷ []) < plan.call.index) (λ (plan : Planned). earlier_in plan.call.lane earlier < plan.call.index)
      (λ plan h. omega (arith, h, earlier_more plan.call.lane earlier u)) (counted (earlier ++ u ∷ []) us) (counted_index (earlier ++ u ∷ []) us),
)

pub counted_rises : (earlier us : List Uncounted) → Ordered (λ (a b : Planned). Rises a.call b.call) (counted earlier us)
counted_rises earlier [] = tt
counted_rises earlier (u ∷ us) =
    let first : ℕ = earlier_in u.lane earlier + 1 in (
      Each-weaker (λ (plan : Planned). earlier_in plan.call.lane (earlier ++ u ∷ []) < plan.call.index) (λ (plan : Planned). u.lane ≡ plan.call.lane → first < plan.call.index)
          (λ plan h same. above plan.call.lane plan.call.index h same) (counted (earlier ++ u ∷ []) us) (counted_index (earlier ++ u ∷ []) us),
      counted_rises (earlier ++ u ∷ []) us,
    )
  where
    above : (lane index : ℕ) → earlier_in lane (earlier ++ u ∷ []) < index → u.lane ≡ lane → earlier_in u.lane earlier + 1 < index
    above lane index h same =
        let unit : ℕ = 1 in
        let one : cond (u.lane == lane) unit 0 ≡ unit = ap (λ b. cond b unit 0) (eq-eqb u.lane lane same) in
        let count : earlier_in lane earlier ≡ earlier_in u.lane earlier = ap (λ l. earlier_in l earlier) (sym same) in
        omega (arith, h, earlier_more lane earlier u, one, count)

pub lanes_all : (es : List Entry) → All (λ (e : Entry). e.call.lane ≤ 4) es → (k : ℕ) (d : Call) → k < length (calls_of es) → (get_or (calls_of es) k d).lane ≤ 4
lanes_all [] h k d b = absurd (omega (arith, b))
lanes_all (e ∷ es) h zero d b = All-head (λ (x : Entry). x.call.lane ≤ 4) e es h
lanes_all (e ∷ es) h (suc k) d b = lanes_all es (All-tail (λ (x : Entry). x.call.lane ≤ 4) e es h) k d (omega (arith, b))

abbrev pub Later : Uncounted → Uncounted → Type 0
Later a b = a.stage ≤ b.stage

pub uncounted_ordered : (phs : List Phase) (index base : ℕ) → Ordered Later (uncounted index base phs)
uncounted_ordered [] index base = tt
uncounted_ordered (phase ∷ phs) index base =
    let IsHere : Uncounted → Type 0 = λ u. (2 * index ≤ u.stage) × (u.stage ≤ 2 * index + 1) in
    let IsDo : Uncounted → Type 0 = λ u. u.stage ≡ 2 * index in
    let IsLane : Uncounted → Type 0 = λ u. u.stage ≡ 2 * index + 1 in
    let dos : List Uncounted = dos_of index phase in
    let calls : List Uncounted = calls_at index base phase in
    let dos_each : Each IsDo dos = Each-map IsDo (λ (command : Command). record { lane = 0; command = command; stage = 2 * index; asked = 0 }) phase.dos (Each-all (λ (command : Command). 2 * index ≡ 2 * index) (λ command. refl) phase.dos) in
    let calls_each : Each IsLane calls =
    Each-map IsLane (λ (call : LaneCall). record { lane = call.lane; command = call.command; stage = 2 * index + 1; asked = base + call.begun }) phase.calls (Each-all (λ (call : LaneCall). 2 * index + 1 ≡ 2 * index + 1) (λ call. refl) phase.calls) in
    let here : Ordered Later (dos ++ calls) =
    Ordered-append Later IsDo IsLane (λ a b p q. omega (arith, p, q)) dos calls (Ordered-any Later IsDo (λ a b p q. omega (arith, p, q)) dos dos_each) dos_each
    (Ordered-any Later IsLane (λ a b p q. omega (arith, p, q)) calls calls_each) calls_each in
    let each : Each IsHere (dos ++ calls) = Each-append IsHere dos calls (Each-weaker IsDo IsHere (λ u p. (omega (arith, p), omega (arith, p))) dos dos_each) (Each-weaker IsLane IsHere (λ u p. (omega (arith, p), omega (arith, p))) calls calls_each) in
    Ordered-append Later IsHere (λ (u : Uncounted). 2 * (index + 1) ≤ u.stage) (λ a b p q. omega (arith, p.1, q)) (dos ++ calls) (uncounted (index + 1) (base + phase.cycles) phs) here each
    (uncounted_ordered phs (index + 1) (base + phase.cycles)) (stage_later (index + 1) (base + phase.cycles) phs)

abbrev pub ByStage : Planned → Planned → Type 0
ByStage a b = a.stage ≤ b.stage

pub lane_ordered : (script : Script) (lane : ℕ) → Ordered ByStage (planned_of script lane)
lane_ordered script lane = Ordered-filter ByStage (λ (plan : Planned). plan.call.lane == lane) (planned script) (Ordered-counted Later [] (uncounted 0 0 (phases script)) (uncounted_ordered (phases script) 0 0))

pub lane_rises : (script : Script) (lane : ℕ) → Ordered (λ (a b : Planned). Rises a.call b.call) (planned_of script lane)
lane_rises script lane = Ordered-filter (λ (a b : Planned). Rises a.call b.call) (λ (plan : Planned). plan.call.lane == lane) (planned script) (counted_rises [] (uncounted 0 0 (phases script)))

-- where the item behind a front is of a high stage, all items of lower stages are in the front
pub front_has : (xs : List Planned) (n limit : ℕ) → Ordered ByStage xs → ((q : Planned) → slice_get xs n ≡ Some q → limit ≤ q.stage) → (plan : Planned) → Contains xs plan → plan.stage < limit → Contains (take n xs) plan
front_has [] n limit o high plan c low = absurd (none c.1)
  where
    none : {k : ℕ} → k < 0 → ⊥
    none q = omega arith
front_has (x ∷ xs) zero limit o high plan c low = absurd (go (Contains-cases x plan xs c))
  where
    go : (x ≡ plan) ⊎ Contains xs plan → ⊥
    go (inl e) = let s : x.stage ≡ plan.stage = ap (λ (p : Planned). p.stage) e in let h = high x refl in omega (arith, s, h, low)
    go (inr d) = let s = Each-contains (ByStage x) xs plan o.0 d in let h = high x refl in omega (arith, s, h, low)
front_has (x ∷ xs) (suc n) limit o high plan c low = go (Contains-cases x plan xs c) (λ d. front_has xs n limit o.1 high plan d low)
  where
    go : (x ≡ plan) ⊎ Contains xs plan → (Contains xs plan → Contains (take n xs) plan) → Contains (x ∷ take n xs) plan
    go (inl e) f = subst (λ (p : Planned). Contains (x ∷ take n xs) p) e (Contains-first x (take n xs))
    go (inr d) f = Contains-later x plan (take n xs) (f d)

-- the item behind a front of rising calls is not in it
pub not_in_front : (xs : List Planned) (n : ℕ) (x : Planned) → Ordered (λ (a b : Planned). Rises a.call b.call) xs → slice_get xs n ≡ Some x → Contains (map (λ (p : Planned). p.call) (take n xs)) x.call → ⊥
not_in_front [] n x o h c = none-some x h
not_in_front (y ∷ xs) zero x o h c = none c.1
  where
    none : {k : ℕ} → k < 0 → ⊥
    none q = omega arith
not_in_front (y ∷ xs) (suc n) x o h c = go (Contains-cases y.call x.call (map (λ (p : Planned). p.call) (take n xs)) c) (λ d. not_in_front xs n x o.1 h d)
  where
    go : (y.call ≡ x.call) ⊎ Contains (map (λ (p : Planned). p.call) (take n xs)) x.call → (Contains (map (λ (p : Planned). p.call) (take n xs)) x.call → ⊥) → ⊥
    go (inl e) f =
        let rises : Rises y.call x.call = Each-contains (λ (p : Planned). Rises y.call p.call) xs x o.0 (contained xs n x h) in
        let less : y.call.index < x.call.index = rises (ap (λ (k : Call). k.lane) e) in
        let same : y.call.index ≡ x.call.index = ap (λ (k : Call). k.index) e in
        omega (arith, less, same)
    go (inr d) f = f d

pub front_length : {X : Type 0} (m : ℕ) (xs : List X) → take m xs ≡ take (length (take m xs)) xs
front_length zero xs = refl
front_length (suc m) [] = refl
front_length (suc m) (x ∷ xs) = ap (λ ys. x ∷ ys) (front_length m xs)

pub small_lane : (script : Script) (plan : Planned) → IsScript script → Contains (planned script) plan → plan.call.lane ≤ 4
small_lane script plan is_script there =
    Each-contains (λ (p : Planned). p.call.lane ≤ 4) (planned script) plan (Each-counted (λ (u : Uncounted). u.lane ≤ 4) [] (uncounted 0 0 (phases script)) (planned_lanes (phases script) 0 0 (KeepsLanes-phases script is_script))) there

pub of_lane : (script : Script) (lane : ℕ) (plan : Planned) → Contains (planned_of script lane) plan → plan.call.lane ≡ lane
of_lane script lane plan c = eqb-true plan.call.lane lane (filter-passes (λ (p : Planned). p.call.lane == lane) (planned script) plan c)
