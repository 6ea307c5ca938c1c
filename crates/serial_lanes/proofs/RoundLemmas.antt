-- What a lane makes in a round of serial mode.
use Rattle.std.proofs.Common.{◌≡◌, ◌≢◌, ℕ, zero, suc, ◌+◌, ◌-◌, ◌*◌, ◌<◌, ◌≤◌, Bool, true, false, ◌&&◌, ◌==◌, List, [], ◌∷◌, ◌++◌, length, take, drop, filter, slice_get, Contains, Some, refl, sym, ◌∙◌, ap, subst, arith, append_assoc, append-nil, eq-eqb, eqb-true, ne_eqb, true≢false, ◌⊎◌, inl, inr}
use Rattle.std.specs.Prelude.{flat_map}
use Rattle.std.proofs.lemmas.List.Elements.{filter-append}
use Rattle.std.proofs.lemmas.Option.{slice_get_within}
use Rattle.std.proofs.Math.Seq.{drop-append_seam}
use Rattle.session_model.specs.Samples.{below}
use Rattle.session_model.specs.Scripts.{Script, Phase, Planned, phases, planned, planned_of}
use Rattle.session_model.specs.Serial.{due, lanes_at, do_calls, calls_from, serial_calls}
use Rattle.session_laws.proofs.CycleLemmas.{filter-passes}
use Rattle.session_laws.proofs.ListLemmas.{Each, Each-append, Each-contains, Each-from_contains, Each-weaker, Each-flat_map, filter-all, filter-none, Contains-filtered}
use Rattle.session_laws.proofs.SerialCallsLemmas.{lane_of_serial_calls}
use Rattle.session_laws.proofs.SerialLawfulLemmas.{KeepsLanes-phases}
use Rattle.control_desk.specs.Desks.{cycles_before}
use Rattle.serial_lanes.specs.Lanes.{calls_behind, calls_until}
use Rattle.serial_lanes.proofs.CallFronts.{lanes-next, calls-next_phase, calls-next_round}
use Rattle.session_model.specs.Grammar.{IsScript}

three : (a b c : Bool) → (a && b && c) ≡ true → (a ≡ true) × (b ≡ true) × (c ≡ true)
three true true true e = (refl, refl, refl)
three true true false e = absurd (true≢false (sym e))
three true false c e = absurd (true≢false (sym e))
three false b c e = absurd (true≢false (sym e))

pub due_is : (script : Script) (p k lane : ℕ) (plan : Planned) → Contains (due script p k lane) plan → (plan.stage ≡ 2 * p + 1) × (plan.asked ≡ k) × (plan.call.lane ≡ lane)
due_is script p k lane plan c =
    let all = three (plan.stage == 2 * p + 1) (plan.asked == k) (plan.call.lane == lane) (filter-passes (λ (q : Planned). q.stage == 2 * p + 1 && q.asked == k && q.call.lane == lane) (planned script) plan c) in
    (eqb-true plan.stage (2 * p + 1) all.0, eqb-true plan.asked k all.1, eqb-true plan.call.lane lane all.2)

abbrev pub on_lane : ℕ → List Planned → List Planned
on_lane lane plans = filter (λ (plan : Planned). plan.call.lane == lane) plans

pub due_own : (script : Script) (p k lane : ℕ) → on_lane lane (due script p k lane) ≡ due script p k lane
due_own script p k lane =
    filter-all (λ (plan : Planned). plan.call.lane == lane) (due script p k lane)
    (Each-from_contains (λ (plan : Planned). (plan.call.lane == lane) ≡ true) (due script p k lane) (λ plan c. eq-eqb plan.call.lane lane (due_is script p k lane plan c).2))

pub due_other : (script : Script) (p k lane other : ℕ) → other ≢ lane → on_lane lane (due script p k other) ≡ []
due_other script p k lane other apart =
    filter-none (λ (plan : Planned). plan.call.lane == lane) (due script p k other)
    (Each-from_contains (λ (plan : Planned). (plan.call.lane == lane) ≡ false) (due script p k other) (λ plan c. ne_eqb plan.call.lane lane (λ e. apart (sym (due_is script p k other plan c).2 ∙ e))))

-- what a lane has of a round
round_lane : (script : Script) (p k lane : ℕ) → 1 ≤ lane → lane ≤ 4 → on_lane lane (lanes_at script p k) ≡ due script p k lane
round_lane script p k lane low high = split ∙ go lane low high
  where
    d : ℕ → List Planned
    d other = due script p k other

    split : on_lane lane (lanes_at script p k) ≡ on_lane lane (due script p k 1) ++ (on_lane lane (due script p k 2) ++ (on_lane lane (due script p k 3) ++ (on_lane lane (due script p k 4) ++ [])))
    split =
        filter-append (λ (plan : Planned). plan.call.lane == lane) (due script p k 1) (due script p k 2 ++ (due script p k 3 ++ (due script p k 4 ++ [])))
        ∙ ap (λ r. on_lane lane (due script p k 1) ++ r) (filter-append (λ (plan : Planned). plan.call.lane == lane) (due script p k 2) (due script p k 3 ++ (due script p k 4 ++ []))
        ∙ ap (λ r. on_lane lane (due script p k 2) ++ r) (filter-append (λ (plan : Planned). plan.call.lane == lane) (due script p k 3) (due script p k 4 ++ [])
        ∙ ap (λ r. on_lane lane (due script p k 3) ++ r) (filter-append (λ (plan : Planned). plan.call.lane == lane) (due script p k 4) [])))

    other : (a b : ℕ) → (a < b) ⊎ (b < a) → a ≢ b
    other a b (inl h) e = omega (arith, h, e)
    other a b (inr h) e = omega (arith, h, e)

    go : (l : ℕ) → 1 ≤ l → l ≤ 4 → on_lane l (due script p k 1) ++ (on_lane l (due script p k 2) ++ (on_lane l (due script p k 3) ++ (on_lane l (due script p k 4) ++ []))) ≡ due script p k l
    go zero a b = absurd (omega (arith, a))
    go (suc zero) a b = rw (due_own script p k 1, due_other script p k 1 2 (other 2 1 (inr (omega arith))), due_other script p k 1 3 (other 3 1 (inr (omega arith))), due_other script p k 1 4 (other 4 1 (inr (omega arith)))) (append-nil (due script p k 1))
    go (suc (suc zero)) a b = rw (due_own script p k 2, due_other script p k 2 1 (other 1 2 (inl (omega arith))), due_other script p k 2 3 (other 3 2 (inr (omega arith))), due_other script p k 2 4 (other 4 2 (inr (omega arith)))) (append-nil (due script p k 2))
    go (suc (suc (suc zero))) a b = rw (due_own script p k 3, due_other script p k 3 1 (other 1 3 (inl (omega arith))), due_other script p k 3 2 (other 2 3 (inl (omega arith))), due_other script p k 3 4 (other 4 3 (inr (omega arith)))) (append-nil (due script p k 3))
    go (suc (suc (suc (suc zero)))) a b = rw (due_own script p k 4, due_other script p k 4 1 (other 1 4 (inl (omega arith))), due_other script p k 4 2 (other 2 4 (inl (omega arith))), due_other script p k 4 3 (other 3 4 (inl (omega arith)))) (append-nil (due script p k 4))
    go (suc (suc (suc (suc (suc l))))) a b = absurd (omega (arith, b))

-- the calls of later rounds of a phase
abbrev pub IsLaterRound : ℕ → ℕ → Planned → Type 0
IsLaterRound p k plan = (plan.stage ≡ 2 * p + 1) × (k ≤ plan.asked)

pub round_each : (script : Script) (p k : ℕ) → Each (IsLaterRound p k) (lanes_at script p k)
round_each script p k =
    let one : (lane : ℕ) → Each (IsLaterRound p k) (due script p k lane) = λ lane. Each-from_contains (IsLaterRound p k) (due script p k lane) (λ plan c. let d = due_is script p k lane plan c in (d.0, omega (arith, d.1))) in
    Each-flat_map (IsLaterRound p k) (due script p k) (1 ∷ 2 ∷ 3 ∷ 4 ∷ []) (one 1, (one 2, (one 3, (one 4, tt))))

pub rounds_split : (script : Script) (p base a b : ℕ)
    → (later : List Planned) × (flat_map (λ t. lanes_at script p (base + t)) (below (a + b)) ≡ flat_map (λ t. lanes_at script p (base + t)) (below a) ++ later) × Each (IsLaterRound p (base + a)) later
rounds_split script p base a zero =
    let e : a + 0 ≡ a = omega arith in
    ([], ap (λ n. flat_map (λ t. lanes_at script p (base + t)) (below n)) e ∙ sym (append-nil (flat_map (λ t. lanes_at script p (base + t)) (below a))), tt)
rounds_split script p base a (suc b) = go (rounds_split script p base a b)
  where
    front : List Planned
    front = flat_map (λ t. lanes_at script p (base + t)) (below a)

    next : a + suc b ≡ suc (a + b)
    next = omega arith

    go : (later : List Planned) × (flat_map (λ t. lanes_at script p (base + t)) (below (a + b)) ≡ front ++ later) × Each (IsLaterRound p (base + a)) later
        → (later : List Planned) × (flat_map (λ t. lanes_at script p (base + t)) (below (a + suc b)) ≡ front ++ later) × Each (IsLaterRound p (base + a)) later
    go w = (
      w.0 ++ lanes_at script p (base + (a + b)),
      ap (λ n. flat_map (λ t. lanes_at script p (base + t)) (below n)) next ∙ lanes-next script p base (a + b) ∙ ap (λ xs. xs ++ lanes_at script p (base + (a + b))) w.1 ∙ append_assoc front w.0 (lanes_at script p (base + (a + b))),
      Each-append (IsLaterRound p (base + a)) w.0 (lanes_at script p (base + (a + b))) w.2
          (Each-weaker (IsLaterRound p (base + (a + b))) (IsLaterRound p (base + a)) (λ plan h. (h.0, omega (arith, h.1))) (lanes_at script p (base + (a + b))) (round_each script p (base + (a + b)))),
    )

-- the calls of later phases
stage_from : (script : Script) (phs : List Phase) (index base : ℕ) → Each (λ (plan : Planned). 2 * index ≤ plan.stage) (calls_from script index base phs)
stage_from script [] index base = tt
stage_from script (phase ∷ phs) index base =
    let High : Planned → Type 0 = λ plan. 2 * index ≤ plan.stage in
    let rounds : List Planned = flat_map (λ t. lanes_at script index (base + t)) (below (phase.cycles + 1)) in
    let none : flat_map (λ t. lanes_at script index (base + t)) (below (0 + (phase.cycles + 1))) ≡ rounds = let e : 0 + (phase.cycles + 1) ≡ phase.cycles + 1 = omega arith in ap (λ n. flat_map (λ t. lanes_at script index (base + t)) (below n)) e in
    let w = rounds_split script index base 0 (phase.cycles + 1) in
    let rounds_each : Each High rounds = subst (Each High) (sym w.1 ∙ none) (Each-weaker (IsLaterRound index (base + 0)) High (λ plan h. omega (arith, h.0)) w.0 w.2) in
    let dos_each : Each High (do_calls script index) =
    Each-from_contains High (do_calls script index) (λ plan c. let s : plan.stage ≡ 2 * index = eqb-true plan.stage (2 * index) (filter-passes (λ (q : Planned). q.stage == 2 * index) (planned script) plan c) in omega (arith, s)) in
    Each-append High (do_calls script index ++ rounds) (calls_from script (index + 1) (base + phase.cycles) phs)
    (Each-append High (do_calls script index) rounds dos_each rounds_each)
    (Each-weaker (λ (plan : Planned). 2 * (index + 1) ≤ plan.stage) High (λ plan h. omega (arith, h)) (calls_from script (index + 1) (base + phase.cycles) phs) (stage_from script phs (index + 1) (base + phase.cycles)))

pub calls_split : (script : Script) (phs : List Phase) (index base n : ℕ) → n ≤ length phs
    → (later : List Planned) × (calls_from script index base phs ≡ calls_from script index base (take n phs) ++ later) × Each (λ (plan : Planned). 2 * (index + n) ≤ plan.stage) later
calls_split script phs index base zero h =
    let e : 2 * (index + 0) ≡ 2 * index = omega arith in
    (calls_from script index base phs, refl, Each-weaker (λ (plan : Planned). 2 * index ≤ plan.stage) (λ (plan : Planned). 2 * (index + 0) ≤ plan.stage) (λ plan q. omega (arith, q)) (calls_from script index base phs) (stage_from script phs index base))
calls_split script [] index base (suc n) h = absurd (omega (arith, h))
calls_split script (phase ∷ phs) index base (suc n) h =
    let w = calls_split script phs (index + 1) (base + phase.cycles) n (omega (arith, h)) in
    let front : List Planned = do_calls script index ++ flat_map (λ t. lanes_at script index (base + t)) (below (phase.cycles + 1)) in (
      w.0,
      ap (λ xs. front ++ xs) w.1 ∙ sym (append_assoc front (calls_from script (index + 1) (base + phase.cycles) (take n phs)) w.0),
      Each-weaker (λ (plan : Planned). 2 * (index + 1 + n) ≤ plan.stage) (λ (plan : Planned). 2 * (index + suc n) ≤ plan.stage) (λ plan q. omega (arith, q)) w.0 w.2,
    )

-- behind so many rounds, what a lane has left begins with what is due now; what follows in this phase asks for more cycles
pub lane_round : (script : Script) (done rounds lane n : ℕ) (phase : Phase) → IsScript script → slice_get (phases script) done ≡ Some phase → rounds ≤ phase.cycles → 1 ≤ lane → lane ≤ 4 → n ≡ length (on_lane lane (calls_until script done rounds))
    → (later : List Planned) × (drop n (planned_of script lane) ≡ due script done (cycles_before script done + rounds) lane ++ later)
    × ((plan : Planned) → Contains later plan → plan.stage < 2 * suc done → cycles_before script done + rounds < plan.asked)
lane_round script done rounds lane n phase is_script here few low high is_front =
    let base : ℕ = cycles_before script done in
    let test : Planned → Bool = λ plan. plan.call.lane == lane in
    let count : phase.cycles + 1 ≡ rounds + 1 + (phase.cycles - rounds) = omega (arith, few) in
    let more = rounds_split script done base (rounds + 1) (phase.cycles - rounds) in
    let behind = calls_split script (phases script) 0 0 (suc done) (slice_get_within (phases script) done phase here) in
    let front : List Planned = calls_behind script done ++ do_calls script done in
    let until : List Planned = calls_until script done rounds in
    let round : List Planned = lanes_at script done (base + rounds) in
    let first : calls_until script done (rounds + 1) ≡ until ++ round = let e : rounds + 1 ≡ suc rounds = omega arith in ap (calls_until script done) e ∙ calls-next_round script done rounds in
    let whole_phase : calls_until script done (phase.cycles + 1) ≡ (until ++ round) ++ more.0 =
    ap (λ m. front ++ flat_map (λ t. lanes_at script done (base + t)) (below m)) count
    ∙ ap (λ xs. front ++ xs) more.1
    ∙ sym (append_assoc front (flat_map (λ t. lanes_at script done (base + t)) (below (rounds + 1))) more.0)
    ∙ ap (λ xs. xs ++ more.0) first in
    let all : serial_calls script ≡ ((until ++ round) ++ more.0) ++ behind.0 = behind.1 ∙ ap (λ xs. xs ++ behind.0) (sym (calls-next_phase script done phase here) ∙ whole_phase) in
    let own : List Planned = on_lane lane until in
    let now : List Planned = due script done (base + rounds) lane in
    let later : List Planned = on_lane lane more.0 ++ on_lane lane behind.0 in
    let parts : on_lane lane (((until ++ round) ++ more.0) ++ behind.0) ≡ ((own ++ now) ++ on_lane lane more.0) ++ on_lane lane behind.0 =
    filter-append test ((until ++ round) ++ more.0) behind.0
    ∙ ap (λ xs. xs ++ on_lane lane behind.0) (filter-append test (until ++ round) more.0
    ∙ ap (λ xs. xs ++ on_lane lane more.0) (filter-append test until round ∙ ap (λ xs. own ++ xs) (round_lane script done (base + rounds) lane low high))) in
    let shape : planned_of script lane ≡ own ++ (now ++ later) =
    sym (lane_of_serial_calls script (KeepsLanes-phases script is_script) lane high) ∙ ap (on_lane lane) all ∙ parts
    ∙ append_assoc (own ++ now) (on_lane lane more.0) (on_lane lane behind.0) ∙ append_assoc own now later in
    let IsLate : Planned → Type 0 = λ plan. plan.stage < 2 * suc done → base + rounds < plan.asked in
    let late_more : Each IsLate (on_lane lane more.0) =
    Each-from_contains IsLate (on_lane lane more.0) (λ plan c. let m = Each-contains (IsLaterRound done (base + (rounds + 1))) more.0 plan more.2 (Contains-filtered test more.0 plan c) in λ q. omega (arith, m.1)) in
    let late_behind : Each IsLate (on_lane lane behind.0) =
    Each-from_contains IsLate (on_lane lane behind.0) (λ plan c. let m = Each-contains (λ (p : Planned). 2 * (0 + suc done) ≤ p.stage) behind.0 plan behind.2 (Contains-filtered test behind.0 plan c) in λ q. absurd (omega (arith, m, q))) in (
      later,
      ap (λ m. drop m (planned_of script lane)) is_front ∙ ap (drop (length own)) shape ∙ drop-append_seam own (now ++ later),
      λ plan c. Each-contains IsLate later plan (Each-append IsLate (on_lane lane more.0) (on_lane lane behind.0) late_more late_behind) c,
    )
