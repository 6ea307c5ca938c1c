-- Where no lane has a call left in the last phase, the history is legal; what stages and waits of calls are.
use Rattle.std.proofs.Common.{◌≡◌, ℕ, zero, suc, ◌+◌, ◌*◌, ◌%◌, ◌<◌, ◌≤◌, Bool, true, false, cond, ne_eqb, ◌==◌, List, [], ◌∷◌, ◌++◌, length, map, take, filter, slice_get, sum_by, Contains, Option, Some, None, refl, sym, ◌∙◌, ap, subst, arith}
use Rattle.std.proofs.lemmas.List.Sums.{sum_by-cons}
use Rattle.jack_types.specs.declared.commands.Call.{Call}
use Rattle.jack_types.specs.declared.commands.Command.{Command}
use Rattle.jack_types.specs.declared.replies.Entry.{Entry}
use Rattle.session_model.specs.Histories.{calls_of}
use Rattle.session_model.specs.Scripts.{Phase, LaneCall, Planned, Uncounted, phases, planned, planned_of, uncounted}
use Rattle.session_laws.proofs.ListLemmas.{Each, Each-all, Each-append, Each-contains, Each-from_contains, Each-map, Each-weaker, length-classes, Contains-filtered}
use Rattle.session_laws.proofs.SerialCallsLemmas.{KeepsLanes, dos_of, calls_at, Each-counted, planned_lanes}
use Rattle.session_laws.proofs.SerialLawfulLemmas.{KeepsLanes-phases}
use Rattle.session_laws.proofs.SerialNumbersLemmas.{asked_before, cycles_before as cycles_first}
use Rattle.call_laws.proofs.ItemLemmas.{contained, length-mapped, none-some}
use Rattle.call_laws.proofs.LaneLemmas.{lanes_all}
use Rattle.control_desk.specs.Desks.{made, cycles_before}
use Rattle.control_desk.proofs.LaneLemmas.{lane_front, within-none}
use Rattle.control_desk.specs.Laws.{LegalWhereDone, AskedWithin, StageOfLane}

-- each stage is below twice the number of phases
stages_below : (phs : List Phase) (index base : ℕ) → Each (λ (u : Uncounted). u.stage < 2 * (index + length phs)) (uncounted index base phs)
stages_below [] index base = tt
stages_below (phase ∷ phs) index base =
    let limit : ℕ = 2 * (index + suc (length phs)) in
    let IsLow : Uncounted → Type 0 = λ u. u.stage < limit in
    Each-append IsLow (dos_of index phase ++ calls_at index base phase) (uncounted (index + 1) (base + phase.cycles) phs)
    (Each-append IsLow (dos_of index phase) (calls_at index base phase)
    (Each-map IsLow (λ (command : Command). record { lane = 0; command = command; stage = 2 * index; asked = 0 }) phase.dos (Each-all (λ (command : Command). 2 * index < limit) (λ command. omega arith) phase.dos))
    (Each-map IsLow (λ (call : LaneCall). record { lane = call.lane; command = call.command; stage = 2 * index + 1; asked = base + call.begun }) phase.calls (Each-all (λ (call : LaneCall). 2 * index + 1 < limit) (λ call. omega arith) phase.calls)))
    (Each-weaker (λ (u : Uncounted). u.stage < 2 * (index + 1 + length phs)) IsLow (λ u h. omega (arith, h)) (uncounted (index + 1) (base + phase.cycles) phs) (stages_below phs (index + 1) (base + phase.cycles)))

take-none : {X : Type 0} (xs : List X) (n : ℕ) → slice_get xs n ≡ None → take n xs ≡ xs
take-none [] zero h = refl
take-none [] (suc n) h = refl
take-none (x ∷ xs) zero h = absurd (none-some x (sym h))
take-none (x ∷ xs) (suc n) h = ap (λ ys. x ∷ ys) (take-none xs n h)

filter_mapped : (lane : ℕ) (plans : List Planned) → filter (λ (c : Call). c.lane == lane) (map (λ (p : Planned). p.call) plans) ≡ map (λ (p : Planned). p.call) (filter (λ (p : Planned). p.call.lane == lane) plans)
filter_mapped lane [] = refl
filter_mapped lane (p ∷ plans) = go (p.call.lane == lane) (filter_mapped lane plans)
  where
    go : (b : Bool) → filter (λ (c : Call). c.lane == lane) (map (λ (q : Planned). q.call) plans) ≡ map (λ (q : Planned). q.call) (filter (λ (q : Planned). q.call.lane == lane) plans)
        → cond b (p.call ∷ filter (λ (c : Call). c.lane == lane) (map (λ (q : Planned). q.call) plans)) (filter (λ (c : Call). c.lane == lane) (map (λ (q : Planned). q.call) plans))
        ≡ map (λ (q : Planned). q.call) (cond b (p ∷ filter (λ (q : Planned). q.call.lane == lane) plans) (filter (λ (q : Planned). q.call.lane == lane) plans))
    go true e = ap (λ cs. p.call ∷ cs) e
    go false e = e

pub legal_where_done : LegalWhereDone
legal_where_done desk is_script is_desk last done = record {
  so_far = is_desk.legal;
  every_call =
      sym (length-mapped (λ (e : Entry). e.call) desk.history)
      ∙ length-classes (λ (c : Call). c.lane) 5 (calls_of desk.history) calls lanes_made lanes_planned same
      ∙ length-mapped (λ (p : Planned). p.call) (planned desk.script);
}
  where
    calls : List Call
    calls = map (λ (p : Planned). p.call) (planned desk.script)

    lanes_made : Each (λ (c : Call). c.lane < 5) (calls_of desk.history)
    lanes_made = Each-from_contains (λ (c : Call). c.lane < 5) (calls_of desk.history) (λ c there. small c there)
      where
        small : (c : Call) → Contains (calls_of desk.history) c → c.lane < 5
        small c there = let low = subst (λ (x : Call). x.lane ≤ 4) there.2 (lanes_all desk.history is_desk.legal.lanes there.0 c there.1) in omega (arith, low)

    lanes_planned : Each (λ (c : Call). c.lane < 5) calls
    lanes_planned =
        Each-map (λ (c : Call). c.lane < 5) (λ (p : Planned). p.call) (planned desk.script)
        (Each-weaker (λ (p : Planned). p.call.lane ≤ 4) (λ (p : Planned). p.call.lane < 5) (λ p h. omega (arith, h)) (planned desk.script)
        (Each-counted (λ (u : Uncounted). u.lane ≤ 4) [] (uncounted 0 0 (phases desk.script)) (planned_lanes (phases desk.script) 0 0 (KeepsLanes-phases desk.script is_script))))

    low_stage : (plan : Planned) → Contains (planned desk.script) plan → plan.stage < 2 * (0 + length (phases desk.script))
    low_stage plan there =
        Each-contains (λ (p : Planned). p.stage < 2 * (0 + length (phases desk.script))) (planned desk.script) plan
        (Each-counted (λ (u : Uncounted). u.stage < 2 * (0 + length (phases desk.script))) [] (uncounted 0 0 (phases desk.script)) (stages_below (phases desk.script) 0 0)) there

    nothing : (lane : ℕ) → lane ≤ 4 → (o : Option Planned) → slice_get (planned_of desk.script lane) (made desk.history lane) ≡ o → slice_get (planned_of desk.script lane) (made desk.history lane) ≡ None
    nothing lane low None e = e
    nothing lane low (Some q) e =
        let high : 2 * desk.phase ≤ q.stage = within-none desk.phase (slice_get (planned_of desk.script lane) (made desk.history lane)) (done lane low) q e in
        let below = low_stage q (Contains-filtered (λ (p : Planned). p.call.lane == lane) (planned desk.script) q (contained (planned_of desk.script lane) (made desk.history lane) q e)) in
        absurd (omega (arith, high, below, last))

    same : (lane : ℕ) → lane < 5 → filter (λ (c : Call). c.lane == lane) (calls_of desk.history) ≡ filter (λ (c : Call). c.lane == lane) calls
    same lane low =
        let small : lane ≤ 4 = omega (arith, low) in
        lane_front desk.script desk.history is_desk.legal lane small
        ∙ ap (map (λ (p : Planned). p.call)) (take-none (planned_of desk.script lane) (made desk.history lane) (nothing lane small (slice_get (planned_of desk.script lane) (made desk.history lane)) refl))
        ∙ sym (filter_mapped lane (planned desk.script))

cycles_agree : (phs : List Phase) (n : ℕ) → cycles_first phs n ≡ sum_by (λ (p : Phase). p.cycles) (take n phs)
cycles_agree [] zero = refl
cycles_agree [] (suc n) = refl
cycles_agree (phase ∷ phs) zero = refl
cycles_agree (phase ∷ phs) (suc n) = let rest = cycles_agree phs n in omega (arith, rest, sum_by-cons (λ (p : Phase). p.cycles) phase (take n phs))

pub asked_within : AskedWithin
asked_within script plan done is_script there low =
    let AsksLow : Uncounted → Type 0 = λ u. (p : ℕ) → u.stage < 2 * (0 + p) + 1 → u.asked ≤ 0 + cycles_first (phases script) p in
    let each : Each (λ (p : Planned). AsksLow (record { lane = p.call.lane; command = p.call.command; stage = p.stage; asked = p.asked })) (planned script) =
    Each-counted AsksLow [] (uncounted 0 0 (phases script)) (asked_before (phases script) 0 0 (KeepsLanes-phases script is_script)) in
    let bound = Each-contains (λ (p : Planned). AsksLow (record { lane = p.call.lane; command = p.call.command; stage = p.stage; asked = p.asked })) (planned script) plan each there done (omega (arith, low)) in
    let same : cycles_first (phases script) done ≡ cycles_before script done = cycles_agree (phases script) done in
    omega (arith, bound, same)

-- even stages are those of lane 0
lane_stages : (phs : List Phase) (index base : ℕ) → Each KeepsLanes phs → Each (λ (u : Uncounted). u.stage % 2 ≡ cond (u.lane == 0) 0 1) (uncounted index base phs)
lane_stages [] index base keeps = tt
lane_stages (phase ∷ phs) index base keeps =
    let P : Uncounted → Type 0 = λ u. u.stage % 2 ≡ cond (u.lane == 0) 0 1 in
    Each-append P (dos_of index phase ++ calls_at index base phase) (uncounted (index + 1) (base + phase.cycles) phs)
    (Each-append P (dos_of index phase) (calls_at index base phase)
    (Each-map P (λ (command : Command). record { lane = 0; command = command; stage = 2 * index; asked = 0 }) phase.dos (Each-all (λ (command : Command). 2 * index % 2 ≡ cond (0 == 0) 0 1) (λ command. even index) phase.dos))
    (Each-map P (λ (call : LaneCall). record { lane = call.lane; command = call.command; stage = 2 * index + 1; asked = base + call.begun }) phase.calls
    (Each-weaker (λ (call : LaneCall). (1 ≤ call.lane) × (call.lane ≤ 4) × (call.begun ≤ phase.cycles)) (λ (call : LaneCall). (2 * index + 1) % 2 ≡ cond (call.lane == 0) 0 1) (λ call q. odd call.lane q.0) phase.calls keeps.0.each)))
    (lane_stages phs (index + 1) (base + phase.cycles) keeps.1)
  where
    even : (i : ℕ) → 2 * i % 2 ≡ 0
    even i = omega arith

    odd : (lane : ℕ) → 1 ≤ lane → (2 * index + 1) % 2 ≡ cond (lane == 0) 0 1
    odd zero h = absurd (omega (arith, h))
    odd (suc l) h = let e : (suc l == 0) ≡ false = ne_eqb (suc l) 0 (λ q. positive l q) in let one : (2 * index + 1) % 2 ≡ 1 = omega arith in one ∙ sym (ap (λ b. cond b 0 1) e)
      where
        positive : (l : ℕ) → suc l ≡ 0 → ⊥
        positive l q = omega (arith, q)

pub stage_of_lane : StageOfLane
stage_of_lane script plan is_script there =
    Each-contains (λ (p : Planned). p.stage % 2 ≡ cond (p.call.lane == 0) 0 1) (planned script) plan
    (Each-counted (λ (u : Uncounted). u.stage % 2 ≡ cond (u.lane == 0) 0 1) [] (uncounted 0 0 (phases script)) (lane_stages (phases script) 0 0 (KeepsLanes-phases script is_script))) there
