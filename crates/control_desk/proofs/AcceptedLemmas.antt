-- What a legal history of a lawful script has accepted.
--     history-few, accepted-few      it is no longer than the script's calls
--     accepted-tempos      its masters have tempos
--     state-short      its clients have short delays
--     accepted-push, accepted-one, accepted-not      one entry more
use Rattle.std.proofs.Common.{◌≡◌, ℕ, suc, ◌≤◌, ◌==◌, count_by, List, [], ◌∷◌, length, map, filter, take, get_or, slice_get, Contains, Some, refl, ◌∙◌, ap, subst, arith}
use Rattle.std.proofs.lemmas.List.Sums.{length-filter}
use Rattle.std.proofs.lemmas.Option.{slice_get-get_or}
use Rattle.jack_types.specs.declared.commands.Call.{Call}
use Rattle.jack_types.specs.declared.commands.Change.{Change}
use Rattle.jack_types.specs.declared.replies.Entry.{Entry}
use Rattle.jack_types.specs.declared.replies.Reply.{Reply}
use Rattle.jack_types.specs.declared.replies.Reply.TheVariants.{Accepted, Refused, Latency as Told}
use Rattle.jack_types.specs.declared.scripts.Header.{Header}
use Rattle.session_model.specs.Commands.{after, refusal, replay}
use Rattle.session_model.specs.Grammar.{IsScript, IsCommand}
use Rattle.session_model.specs.Histories.{LegalSoFar, accepted, calls_of, state_after}
use Rattle.session_model.specs.Scripts.{Script, Planned, planned, planned_of}
use Rattle.session_model.specs.State.{State, opening}
use Rattle.session_laws.proofs.ListLemmas.{Each, Each-from_contains, slice_get-map}
use Rattle.call_laws.specs.cycle_plan.specs.Plans.{HasTempos}
use Rattle.graph_replies.specs.Told.{HasShortDelays}
use Rattle.call_laws.proofs.ItemLemmas.{contained, length-mapped, mapped_some}
use Rattle.call_laws.proofs.LaneLemmas.{lanes_all}
use Rattle.call_laws.proofs.RoomLemmas.{accepted-length, count-lanes, five, lanes-length, take-short}
use Rattle.call_laws.proofs.ScriptLemmas.{planned-few, planned-lawful}
use Rattle.call_laws.proofs.StateLemmas.{All-each, IsShort, after-short, command-tempo}
use Rattle.control_desk.proofs.CallLemmas.{planned_call}
use Rattle.control_desk.proofs.LawfulLemmas.{accepted_at, change_is}

-- an accepted entry, and one that is not
pub accepted-one : (entry : Entry) (number : ℕ) → entry.reply ≡ Accepted number → accepted (entry ∷ []) ≡ record { number = number; command = entry.call.command } ∷ []
accepted-one entry number e = ap (λ (r : Reply). accepted (record entry { reply = r } ∷ [])) e

pub accepted-not : (entry : Entry) → ((number : ℕ) → entry.reply ≡ Accepted number → ⊥) → accepted (entry ∷ []) ≡ []
accepted-not entry other = go entry.reply other
  where
    go : (r : Reply) → ((number : ℕ) → r ≡ Accepted number → ⊥) → accepted (record entry { reply = r } ∷ []) ≡ []
    go (Accepted number) f = absurd (f number refl)
    go (Refused refusal) f = refl
    go (Told range) f = refl

-- ---- how many

module _ (script : Script) (is : IsScript script) (history : List Entry) (legal : LegalSoFar script history) where
  lane-few : (lane : ℕ) → lane ≤ 4 → count_by (λ (call : Call). call.lane == lane) (calls_of history) ≤ count_by (λ (plan : Planned). plan.call.lane == lane) (planned script)
  lane-few lane low =
      let order = legal.lane_order lane low in
      let made : length (filter (λ (call : Call). call.lane == lane) (calls_of history)) ≡ count_by (λ (call : Call). call.lane == lane) (calls_of history) = length-filter (λ (call : Call). call.lane == lane) (calls_of history) in
      let all : length (planned_of script lane) ≡ count_by (λ (plan : Planned). plan.call.lane == lane) (planned script) = length-filter (λ (plan : Planned). plan.call.lane == lane) (planned script) in
      let same : length (map (λ (plan : Planned). plan.call) (planned_of script lane)) ≡ length (planned_of script lane) = length-mapped (λ (plan : Planned). plan.call) (planned_of script lane) in
      let front : length (filter (λ (call : Call). call.lane == lane) (calls_of history)) ≡ length (take order.0 (map (λ (plan : Planned). plan.call) (planned_of script lane))) = ap length order.1 in
      let fewer = take-short order.0 (map (λ (plan : Planned). plan.call) (planned_of script lane)) in
      omega (arith, made, all, same, front, fewer)

  pub history-few : length history ≤ 4096
  history-few =
      let size : length (calls_of history) ≡ length history = length-mapped (λ (entry : Entry). entry.call) history in
      let lanes : Each (λ (call : Call). call.lane ≤ 4) (calls_of history) = Each-from_contains (λ (call : Call). call.lane ≤ 4) (calls_of history) small in
      let made : length (calls_of history) ≡ five (λ k. count_by (λ (call : Call). call.lane == k) (calls_of history)) = lanes-length (λ (call : Call). call.lane) (calls_of history) lanes in
      let all : five (λ k. count_by (λ (plan : Planned). plan.call.lane == k) (planned script)) ≤ length (planned script) = count-lanes (λ (plan : Planned). plan.call.lane) (planned script) in
      let f0 = lane-few 0 (omega arith) in let f1 = lane-few 1 (omega arith) in let f2 = lane-few 2 (omega arith) in let f3 = lane-few 3 (omega arith) in let f4 = lane-few 4 (omega arith) in
      let few = planned-few script is in
      omega (arith, size, made, all, f0, f1, f2, f3, f4, few)
    where
      small : (c : Call) → Contains (calls_of history) c → c.lane ≤ 4
      small c there = subst (λ (x : Call). x.lane ≤ 4) there.2 (lanes_all history legal.lanes there.0 c there.1)

  -- the command of a call made
  call-lawful : (call : Call) → Contains (calls_of history) call → IsCommand script.header call.command
  call-lawful call there =
      let c = planned_call script history legal call there in
      let w = slice_get-map (λ (plan : Planned). plan.call) (planned script) c.0 call (slice_get-get_or (map (λ (plan : Planned). plan.call) (planned script)) c.0 call c.1 ∙ ap Some c.2) in
      subst (λ (k : Call). IsCommand script.header k.command) w.2 (planned-lawful script is w.0 (contained (planned script) c.0 w.0 w.1))

  change-lawful : (i : ℕ) (change : Change) → slice_get (accepted history) i ≡ Some change → IsCommand script.header change.command
  change-lawful i change at =
      let w = accepted_at history i change at in
      let said = change_is w.1 change w.3 in
      subst (IsCommand script.header) said.1
      (call-lawful (w.1).call (contained (calls_of history) w.0 (w.1).call (mapped_some (λ (entry : Entry). entry.call) history w.0 w.1 w.2)))

-- ---- tempos and delays

replay-short : (header : Header) (changes : List Change) (state : State) → ((i : ℕ) (change : Change) → slice_get changes i ≡ Some change → IsCommand header change.command) → Each IsShort state.clients → Each IsShort (replay state changes).clients
replay-short header [] state each h = h
replay-short header (change ∷ changes) state each h =
    replay-short header changes (after state change.number change.command) (λ i other at. each (suc i) other at) (after-short header state change.number change.command (each 0 change refl) h)

module _ (script : Script) (is : IsScript script) (history : List Entry) (legal : LegalSoFar script history) where
  pub accepted-few : length (accepted history) ≤ 4096
  accepted-few = let fewer = accepted-length history in let few = history-few script is history legal in omega (arith, fewer, few)

  pub accepted-tempos : HasTempos (accepted history)
  accepted-tempos k d b =
      command-tempo script.header (get_or (accepted history) k d).command
      (change-lawful script is history legal k (get_or (accepted history) k d) (slice_get-get_or (accepted history) k d b))

  pub state-short : HasShortDelays (state_after script history)
  state-short =
      All-each IsShort (state_after script history).clients
      (replay-short script.header (accepted history) (opening script.header.capture script.header.playback) (change-lawful script is history legal) (omega arith, tt))
