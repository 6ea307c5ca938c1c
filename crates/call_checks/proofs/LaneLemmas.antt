-- A lane's calls made are a front of its planned calls, which rise by stages.
--     lane_front      the calls made
--     due-made, due-not      where no lane's next call is of a lower stage, all calls of lower stages were made
use Rattle.std.proofs.Common.{◌≡◌, ℕ, ◌≤◌, Bool, true, false, nat_le, ◌==◌, List, length, map, take, filter, slice_get, Contains, Some, refl, sym, ◌∙◌, ap, subst, arith, eq-eqb}
use Rattle.std.proofs.lemmas.Bool.Decides.{nat_tests}
use Rattle.std.proofs.lemmas.List.Sums.{length-filter}
use Rattle.jack_types.specs.declared.commands.Call.{Call}
use Rattle.jack_types.specs.declared.replies.Entry.{Entry}
use Rattle.session_model.specs.Grammar.{IsScript}
use Rattle.session_model.specs.Histories.{LegalSoFar, calls_of}
use Rattle.session_model.specs.Scripts.{Script, Planned, planned, planned_of}
use Rattle.session_laws.proofs.ListLemmas.{Contains-kept, Contains-filtered, Contains-map, map-take}
use Rattle.call_laws.proofs.ItemLemmas.{contained}
use Rattle.call_laws.proofs.LaneLemmas.{front_has, front_length, lane_ordered, lane_rises, not_in_front, of_lane, small_lane}
use Rattle.call_checks.specs.Kept.{AreMadeBelow, HasEarlier, IsDue, made}

-- a lane's calls made are as many of its planned calls
pub lane_front : (script : Script) (history : List Entry) → LegalSoFar script history → (lane : ℕ) → lane ≤ 4
    → filter (λ (call : Call). call.lane == lane) (calls_of history) ≡ map (λ (plan : Planned). plan.call) (take (made history lane) (planned_of script lane))
lane_front script history legal lane low =
    let order = legal.lane_order lane low in
    let calls : List Call = map (λ (plan : Planned). plan.call) (planned_of script lane) in
    let count : length (take order.0 calls) ≡ made history lane = sym (ap length order.1) ∙ length-filter (λ (call : Call). call.lane == lane) (calls_of history) in
    order.1 ∙ front_length order.0 calls ∙ ap (λ n. take n calls) count ∙ sym (map-take (λ (plan : Planned). plan.call) (made history lane) (planned_of script lane))

module _ (script : Script) (is : IsScript script) (history : List Entry) (legal : LegalSoFar script history) (stage : ℕ) where
  pub due-made : IsDue script history stage → AreMadeBelow script history stage
  due-made none earlier there low =
      let lane : ℕ = earlier.call.lane in
      let small : lane ≤ 4 = small_lane script earlier is there in
      let here : Contains (planned_of script lane) earlier = Contains-kept (λ (p : Planned). p.call.lane == lane) (planned script) earlier (eq-eqb lane lane refl) there in
      let front : Contains (take (made history lane) (planned_of script lane)) earlier = front_has (planned_of script lane) (made history lane) stage (lane_ordered script lane) (λ q at. high lane small q at (nat_le stage q.stage) refl) earlier here low in
      let call : Contains (map (λ (p : Planned). p.call) (take (made history lane) (planned_of script lane))) earlier.call = Contains-map (λ (p : Planned). p.call) (take (made history lane) (planned_of script lane)) earlier front in
      Contains-filtered (λ (c : Call). c.lane == lane) (calls_of history) earlier.call
      (subst (λ (cs : List Call). Contains cs earlier.call) (sym (lane_front script history legal lane small)) call)
    where
      high : (lane : ℕ) → lane ≤ 4 → (q : Planned) → slice_get (planned_of script lane) (made history lane) ≡ Some q → (b : Bool) → nat_le stage q.stage ≡ b → stage ≤ q.stage
      high lane small q at true t = grind (arith, nat_tests)
      high lane small q at false t = absurd (none lane small (record { plan = q; next = at; low = grind (arith, nat_tests) }))

  pub due-not : (lane : ℕ) → lane ≤ 4 → HasEarlier script history stage lane → AreMadeBelow script history stage → ⊥
  due-not lane small early all =
      let of : Contains (planned_of script lane) early.plan = contained (planned_of script lane) (made history lane) early.plan early.next in
      let there : Contains (planned script) early.plan = Contains-filtered (λ (p : Planned). p.call.lane == lane) (planned script) early.plan of in
      not_in_front (planned_of script lane) (made history lane) early.plan (lane_rises script lane) early.next
      (subst (λ (cs : List Call). Contains cs early.plan.call) (lane_front script history legal lane small) (Contains-kept (λ (c : Call). c.lane == lane) (calls_of history) early.plan.call (eq-eqb early.plan.call.lane lane (of_lane script lane early.plan of)) (all early.plan there early.low)))
