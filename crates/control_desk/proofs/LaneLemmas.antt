-- A lane's calls made are a front of its planned calls, which rise by stages.
use Rattle.std.proofs.Common.{◌≡◌, ℕ, zero, suc, ◌+◌, ◌*◌, ◌<◌, ◌≤◌, Bool, true, false, cond, nat_le, ◌==◌, count_by, List, [], ◌∷◌, length, map, take, filter, slice_get, Contains, Option, Some, None, refl, sym, ◌∙◌, ap, subst, arith, eq-eqb}
use Rattle.std.proofs.lemmas.Bool.Decides.{nat_tests}
use Rattle.std.proofs.lemmas.List.Sums.{length-filter, sum_by-take-le}
use Rattle.jack_types.specs.declared.commands.Call.{Call}
use Rattle.jack_types.specs.declared.replies.Entry.{Entry}
use Rattle.session_model.specs.Grammar.{IsScript}
use Rattle.session_model.specs.Histories.{LegalSoFar, calls_of}
use Rattle.session_model.specs.Scripts.{Script, Planned, Uncounted, phases, planned, planned_of, uncounted}
use Rattle.session_laws.proofs.ListLemmas.{Ordered, Each-contains, Contains-kept, Contains-filtered, Contains-map, map-take}
use Rattle.session_laws.proofs.SerialCallsLemmas.{Each-counted, planned_lanes}
use Rattle.session_laws.proofs.SerialLawfulLemmas.{KeepsLanes-phases}
use Rattle.call_laws.proofs.ItemLemmas.{contained, none-some, some-same}
use Rattle.call_laws.proofs.LaneLemmas.{ByStage, front_has, front_length, lane_ordered, lane_rises, not_in_front, of_lane, small_lane}
use Rattle.control_desk.specs.Desks.{Desk, IsDesk, IsDone, next_call, within, made}
use Rattle.control_desk.specs.Laws.{MadeWhereDone, NextStage, DoneGoesOn}

-- a lane's calls made are as many of its planned calls
pub lane_front : (script : Script) (history : List Entry) → LegalSoFar script history → (lane : ℕ) → lane ≤ 4
    → filter (λ (call : Call). call.lane == lane) (calls_of history) ≡ map (λ (plan : Planned). plan.call) (take (made history lane) (planned_of script lane))
lane_front script history legal lane low =
    let order = legal.lane_order lane low in
    let calls : List Call = map (λ (plan : Planned). plan.call) (planned_of script lane) in
    let count : length (take order.0 calls) ≡ made history lane = sym (ap length order.1) ∙ length-filter (λ (call : Call). call.lane == lane) (calls_of history) in
    order.1 ∙ front_length order.0 calls ∙ ap (λ n. take n calls) count ∙ sym (map-take (λ (plan : Planned). plan.call) (made history lane) (planned_of script lane))

pub within-none : (phase : ℕ) (o : Option Planned) → within phase o ≡ None → (q : Planned) → o ≡ Some q → 2 * phase ≤ q.stage
within-none phase o none q is = go (nat_le (q.stage + 1) (2 * phase)) refl (sym (ap (within phase) is) ∙ none)
  where
    lost : Some q ≡ None → ⊥
    lost e = cc

    go : (b : Bool) → nat_le (q.stage + 1) (2 * phase) ≡ b → cond b (Some q) None ≡ None → 2 * phase ≤ q.stage
    go true t e = absurd (lost e)
    go false t e = grind (arith, nat_tests)

-- what a lane that is done had to do is made
pub made_by_done : (desk : Desk) → IsScript desk.script → IsDesk desk → (plan : Planned) → Contains (planned desk.script) plan → plan.stage < 2 * desk.phase → IsDone desk plan.call.lane → Contains (calls_of desk.history) plan.call
made_by_done desk is_script is_desk plan there low done =
    let lane : ℕ = plan.call.lane in
    let small : lane ≤ 4 = Each-contains (λ (p : Planned). p.call.lane ≤ 4) (planned desk.script) plan (Each-counted (λ (u : Uncounted). u.lane ≤ 4) [] (uncounted 0 0 (phases desk.script)) (planned_lanes (phases desk.script) 0 0 (KeepsLanes-phases desk.script is_script))) there in
    let here : Contains (planned_of desk.script lane) plan = Contains-kept (λ (p : Planned). p.call.lane == lane) (planned desk.script) plan (eq-eqb lane lane refl) there in
    let front : Contains (take (made desk.history lane) (planned_of desk.script lane)) plan =
    front_has (planned_of desk.script lane) (made desk.history lane) (2 * desk.phase) (lane_ordered desk.script lane) (within-none desk.phase (slice_get (planned_of desk.script lane) (made desk.history lane)) done) plan here low in
    let call : Contains (map (λ (p : Planned). p.call) (take (made desk.history lane) (planned_of desk.script lane))) plan.call = Contains-map (λ (p : Planned). p.call) (take (made desk.history lane) (planned_of desk.script lane)) plan front in
    Contains-filtered (λ (c : Call). c.lane == lane) (calls_of desk.history) plan.call
    (subst (λ (cs : List Call). Contains cs plan.call) (sym (lane_front desk.script desk.history is_desk.legal lane small)) call)

pub made_where_done : MadeWhereDone
made_where_done desk is_script is_desk done plan there low =
    made_by_done desk is_script is_desk plan there low
    (done plan.call.lane (Each-contains (λ (p : Planned). p.call.lane ≤ 4) (planned desk.script) plan (Each-counted (λ (u : Uncounted). u.lane ≤ 4) [] (uncounted 0 0 (phases desk.script)) (planned_lanes (phases desk.script) 0 0 (KeepsLanes-phases desk.script is_script))) there))

pub within-some : (phase : ℕ) (o : Option Planned) (q : Planned) → within phase o ≡ Some q → (o ≡ Some q) × (q.stage < 2 * phase)
within-some phase None q e = absurd (lost e)
  where
    lost : None ≡ Some q → ⊥
    lost f = cc
within-some phase (Some x) q e = go (nat_le (x.stage + 1) (2 * phase)) refl e
  where
    lost : None ≡ Some q → ⊥
    lost f = cc

    go : (b : Bool) → nat_le (x.stage + 1) (2 * phase) ≡ b → cond b (Some x) None ≡ Some q → (Some x ≡ Some q) × (q.stage < 2 * phase)
    go true t f = let s : x.stage ≡ q.stage = ap (λ (p : Planned). p.stage) (some-same x q f) in (f, grind (arith, nat_tests))
    go false t f = absurd (lost f)

pub next_stage : NextStage
next_stage desk lane plan is_script is_desk next = go (nat_le (2 * desk.phase) (plan.stage + 2)) refl
  where
    there : slice_get (planned_of desk.script lane) (made desk.history lane) ≡ Some plan
    there = (within-some desk.phase (slice_get (planned_of desk.script lane) (made desk.history lane)) plan next).0

    of : Contains (planned_of desk.script lane) plan
    of = contained (planned_of desk.script lane) (made desk.history lane) plan there

    in_plan : Contains (planned desk.script) plan
    in_plan = Contains-filtered (λ (p : Planned). p.call.lane == lane) (planned desk.script) plan of

    is_lane : plan.call.lane ≡ lane
    is_lane = of_lane desk.script lane plan of

    low : lane ≤ 4
    low = subst (λ l. l ≤ 4) is_lane (small_lane desk.script plan is_script in_plan)

    again : Contains (calls_of desk.history) plan.call → ⊥
    again c =
        not_in_front (planned_of desk.script lane) (made desk.history lane) plan (lane_rises desk.script lane) there
        (subst (λ (cs : List Call). Contains cs plan.call) (lane_front desk.script desk.history is_desk.legal lane low) (Contains-kept (λ (k : Call). k.lane == lane) (calls_of desk.history) plan.call (eq-eqb plan.call.lane lane is_lane) c))

    go : (b : Bool) → nat_le (2 * desk.phase) (plan.stage + 2) ≡ b → 2 * desk.phase ≤ plan.stage + 2
    go true t = grind (arith, nat_tests)
    go false t = absurd (again (is_desk.earlier plan in_plan (grind (arith, nat_tests))))

-- an item before another one
pub before_it : (xs : List Planned) (m n : ℕ) (x : Planned) → Ordered ByStage xs → m ≤ n → slice_get xs n ≡ Some x → (q : Planned) × (slice_get xs m ≡ Some q) × (q.stage ≤ x.stage)
before_it [] m n x o l h = absurd (none-some x h)
before_it (y ∷ xs) zero zero x o l h = (y, refl, let s : y.stage ≡ x.stage = ap (λ (p : Planned). p.stage) (some-same y x h) in omega (arith, s))
before_it (y ∷ xs) (suc m) zero x o l h = absurd (omega (arith, l))
before_it (y ∷ xs) zero (suc n) x o l h = (y, refl, Each-contains (ByStage y) xs x o.0 (contained xs n x h))
before_it (y ∷ xs) (suc m) (suc n) x o l h = before_it xs m n x o.1 (omega (arith, l)) h

pub done_goes_on : DoneGoesOn
done_goes_on opened desk is_script is_desk goes done = go (next_call desk 0) refl
  where
    fewer : made opened.history 0 ≤ made desk.history 0
    fewer =
        let n : ℕ = length opened.history in
        let front : calls_of opened.history ≡ take n (calls_of desk.history) = ap calls_of goes.more ∙ map-take (λ (e : Entry). e.call) n desk.history in
        let less : count_by (λ (call : Call). call.lane == 0) (take n (calls_of desk.history)) ≤ made desk.history 0 = sum_by-take-le (λ (call : Call). cond (call.lane == 0) 1 0) (calls_of desk.history) n in
        subst (λ (cs : List Call). count_by (λ (call : Call). call.lane == 0) cs ≤ made desk.history 0) (sym front) less

    clash : (plan : Planned) → next_call desk 0 ≡ Some plan → ⊥
    clash plan e =
        let there = within-some desk.phase (slice_get (planned_of desk.script 0) (made desk.history 0)) plan e in
        let w = before_it (planned_of desk.script 0) (made opened.history 0) (made desk.history 0) plan (lane_ordered desk.script 0) fewer there.0 in
        let in_opened : slice_get (planned_of opened.script 0) (made opened.history 0) ≡ Some w.0 = subst (λ (s : Script). slice_get (planned_of s 0) (made opened.history 0) ≡ Some w.0) goes.script w.1 in
        let high : 2 * opened.phase ≤ w.0.stage = within-none opened.phase (slice_get (planned_of opened.script 0) (made opened.history 0)) done w.0 in_opened in
        omega (arith, high, w.2, there.1, goes.phase)

    go : (o : Option Planned) → next_call desk 0 ≡ o → next_call desk 0 ≡ None
    go None e = e
    go (Some plan) e = absurd (clash plan e)
