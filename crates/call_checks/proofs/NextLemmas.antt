-- Which call comes next in a legal history.
--     next-planned, legal-next      one call more, which may come next
--     goes-next      the other way: what goes on is such a call, with the graph's reply
--     answers-none, answers-wrong, answers-entered      what is answered
--     finds-next, finds-late      a lane's next call, and whether it may come
use Rattle.std.proofs.Common.{◌≡◌, ℕ, zero, suc, ◌+◌, ◌<◌, ◌≤◌, true, ◌&&◌, cond, ◌==◌, List, [], ◌∷◌, ◌++◌, length, map, filter, take, slice_get, Contains, Option, Some, None, option_map, refl, sym, ◌∙◌, ap, ap₂, subst, arith, eqb-true, eq-eqb, Bool, false}
use Rattle.std.proofs.lemmas.List.{map-append, take_at}
use Rattle.std.proofs.lemmas.List.Elements.{filter-append}
use Rattle.std.proofs.lemmas.List.Sums.{length-filter}
use Rattle.jack_types.specs.declared.commands.Call.{Call}
use Rattle.jack_types.specs.declared.replies.Entry.{Entry}
use Rattle.jack_types.specs.declared.replies.Reply.{Reply}
use Rattle.check_model.specs.Checking.{entry_of, no_command}
use Rattle.session_model.specs.Grammar.{IsScript}
use Rattle.session_model.specs.Histories.{LegalSoFar, accepted, calls_of, plan_of, state_after}
use Rattle.session_model.specs.Replies.{reply}
use Rattle.session_model.specs.Reports.{PrintedCall}
use Rattle.session_model.specs.Scripts.{Script, Planned, planned, planned_of}
use Rattle.session_model.specs.Serial.{answered}
use Rattle.session_laws.proofs.CycleLemmas.{find-contains, find-passes}
use Rattle.session_laws.proofs.HistoryLemmas.{IsNextCall, LegalSoFar-next}
use Rattle.session_laws.proofs.ListLemmas.{Contains-filtered, map-take, slice_get-map}
use Rattle.session_laws.proofs.LoopLemmas.{and_parts}
use Rattle.session_laws.proofs.SerialLemmas.{plan_of-planned}
use Rattle.call_laws.proofs.ItemLemmas.{contained, mapped_some, none-some, some-same}
use Rattle.call_laws.proofs.LaneLemmas.{lanes_all, of_lane}
use Rattle.call_checks.specs.Checks.{Answers, Checks, GoesOn}
use Rattle.call_checks.specs.Kept.{AreMadeBelow, Enters, Finds, IsDue, IsNext, IsNextAs, made}
use Rattle.call_checks.proofs.LaneLemmas.{due-made, due-not, lane_front}

module _ (script : Script) (history : List Entry) (legal : LegalSoFar script history) (plan : Planned) (next : IsNext script history plan) where
  pub next-planned : Contains (planned script) plan
  next-planned = Contains-filtered (λ (p : Planned). p.call.lane == plan.call.lane) (planned script) plan (contained (planned_of script plan.call.lane) (made history plan.call.lane) plan next.next)

  next-call : IsNextCall script history plan.call
  next-call = record {
    lane = next.lane;
    made = made history plan.call.lane;
    so_far = lane_front script history legal plan.call.lane next.lane ∙ map-take (λ (p : Planned). p.call) (made history plan.call.lane) (planned_of script plan.call.lane);
    next = mapped_some (λ (p : Planned). p.call) (planned_of script plan.call.lane) (made history plan.call.lane) plan next.next;
    stages = λ other earlier there same earlier_there lower. next.stages earlier earlier_there (subst (λ (p : Planned). earlier.stage < p.stage) (one other there same) lower);
  }
    where
      one : (other : Planned) → Contains (planned script) other → other.call ≡ plan.call → other ≡ plan
      one other there same = some-same other plan (sym (plan_of-planned script other there) ∙ ap (λ c. plan_of script c) same ∙ plan_of-planned script plan next-planned)

  pub legal-next : LegalSoFar script (history ++ answered script history plan.call ∷ [])
  legal-next = LegalSoFar-next script history plan.call legal next-call

  -- a line of this lane and index stands for this call
  pub entry-next : (line : PrintedCall) → plan.call.lane ≡ line.lane → plan.call.index ≡ line.index → entry_of script line ≡ Some (record { call = plan.call; reply = line.reply })
  entry-next line lane index =
      ap₂ (λ l i. option_map (λ (p : Planned). record { call = p.call; reply = line.reply }) (plan_of script (record { lane = l; index = i; command = no_command }))) (sym lane) (sym index)
      ∙ ap (λ o. option_map (λ (p : Planned). record { call = p.call; reply = line.reply }) o) (plan_of-planned script plan next-planned)

-- ---- the other way

take-at : {X : Type 0} (n m : ℕ) (xs : List X) (x : X) → slice_get (take n xs) m ≡ Some x → slice_get xs m ≡ Some x
take-at zero m xs x h = absurd (none-some x h)
take-at (suc n) m [] x h = absurd (none-some x h)
take-at (suc n) zero (y ∷ xs) x h = h
take-at (suc n) (suc m) (y ∷ xs) x h = take-at n m xs x h

last-at : {X : Type 0} (xs : List X) (x : X) (n : ℕ) → n ≡ length xs → slice_get (xs ++ x ∷ []) n ≡ Some x
last-at [] x zero h = refl
last-at [] x (suc n) h = absurd (omega (arith, h))
last-at (y ∷ xs) x zero h = absurd (omega (arith, h))
last-at (y ∷ xs) x (suc n) h = last-at xs x n (omega (arith, h))

module _ (script : Script) (history : List Entry) (entry : Entry) (longer : LegalSoFar script (history ++ entry ∷ [])) where
  abbrev lane : ℕ
  lane = entry.call.lane

  calls-longer : calls_of (history ++ entry ∷ []) ≡ calls_of history ++ entry.call ∷ []
  calls-longer = map-append (λ (e : Entry). e.call) history (entry ∷ [])

  at-end : slice_get (history ++ entry ∷ []) (length history) ≡ Some entry
  at-end = last-at history entry (length history) refl

  before-end : take (length history) (history ++ entry ∷ []) ≡ history
  before-end = take_at history (entry ∷ []) (length history) refl

  small : lane ≤ 4
  small = low (contained (calls_of (history ++ entry ∷ [])) (length history) entry.call (mapped_some (λ (e : Entry). e.call) (history ++ entry ∷ []) (length history) entry at-end))
    where
      low : Contains (calls_of (history ++ entry ∷ [])) entry.call → entry.call.lane ≤ 4
      low c = subst (λ (k : Call). k.lane ≤ 4) c.2 (lanes_all (history ++ entry ∷ []) longer.lanes c.0 entry.call c.1)

  abbrev front : List Call
  front = filter (λ (call : Call). call.lane == lane) (calls_of history)

  front-longer : filter (λ (call : Call). call.lane == lane) (calls_of (history ++ entry ∷ [])) ≡ front ++ entry.call ∷ []
  front-longer =
      ap (filter (λ (call : Call). call.lane == lane)) calls-longer ∙ filter-append (λ (call : Call). call.lane == lane) (calls_of history) (entry.call ∷ [])
      ∙ ap (λ b. front ++ cond b (entry.call ∷ []) []) (eq-eqb lane lane refl)

  -- the lane's planned call at the place behind those made
  planned-here : (plan : Planned) × (slice_get (planned_of script lane) (made history lane) ≡ Some plan) × (plan.call ≡ entry.call)
  planned-here =
      let count : ℕ = made (history ++ entry ∷ []) lane in
      let size : made history lane ≡ length front = sym (length-filter (λ (call : Call). call.lane == lane) (calls_of history)) in
      let whole : front ++ entry.call ∷ [] ≡ map (λ (p : Planned). p.call) (take count (planned_of script lane)) = sym front-longer ∙ lane_front script (history ++ entry ∷ []) longer lane small in
      let at : slice_get (map (λ (p : Planned). p.call) (take count (planned_of script lane))) (made history lane) ≡ Some entry.call =
      sym (ap (λ cs. slice_get cs (made history lane)) whole) ∙ last-at front entry.call (made history lane) size in
      let w = slice_get-map (λ (p : Planned). p.call) (take count (planned_of script lane)) (made history lane) entry.call at in
      (w.0, take-at count (made history lane) (planned_of script lane) w.0 w.1, w.2)

  module _ (plan : Planned) (there : Contains (planned script) plan) (of : plan.call ≡ entry.call) where
    is-here : planned-here.0 ≡ plan
    is-here =
        let listed : Contains (planned script) planned-here.0 = Contains-filtered (λ (p : Planned). p.call.lane == lane) (planned script) planned-here.0 (contained (planned_of script lane) (made history lane) planned-here.0 planned-here.1) in
        some-same planned-here.0 plan (sym (plan_of-planned script planned-here.0 listed) ∙ ap (λ c. plan_of script c) (planned-here.2 ∙ sym of) ∙ plan_of-planned script plan there)

    pub next-of : IsNext script history plan
    next-of = record {
      lane = subst (λ (c : Call). c.lane ≤ 4) (sym of) small;
      next =
          subst (λ (c : Call). slice_get (planned_of script c.lane) (made history c.lane) ≡ Some plan) (sym of)
          (subst (λ (p : Planned). slice_get (planned_of script lane) (made history lane) ≡ Some p) is-here planned-here.1);
      stages = λ earlier listed low. subst (λ es. Contains (calls_of es) earlier.call) before-end (longer.stage_order (length history) entry plan earlier at-end there of listed low);
    }

    pub reply-of : entry.reply ≡ (answered script history plan.call).reply
    reply-of =
        subst (λ es. entry.reply ≡ reply (state_after script es) (length (accepted es) + 1) entry.call.command) before-end (longer.replies (length history) entry at-end)
        ∙ ap (λ (c : Call). reply (state_after script history) (length (accepted history) + 1) c.command) (sym of)

-- what goes on is the next call, with the graph's reply
pub record Next (checks : Checks) (line : PrintedCall) : Type 0 where
  pub plan : Planned
  pub next : IsNextAs checks.script checks.history line.lane line.index plan
  pub reply_is : line.reply ≡ (answered checks.script checks.history plan.call).reply

pub goes-next : (checks : Checks) (line : PrintedCall) (entry : Entry) → GoesOn checks line entry → Next checks line
goes-next checks line entry goes = go (plan_of checks.script (record { lane = line.lane; index = line.index; command = no_command })) refl goes.planned
  where
    go : (o : Option Planned) → plan_of checks.script (record { lane = line.lane; index = line.index; command = no_command }) ≡ o
        → option_map (λ (plan : Planned). record { call = plan.call; reply = line.reply }) o ≡ Some entry → Next checks line
    go None e h = absurd (none-some entry h)
    go (Some plan) e h =
        let test : (plan.call.lane == line.lane && plan.call.index == line.index) ≡ true =
        find-passes (λ (p : Planned). p.call.lane == line.lane && p.call.index == line.index) (planned checks.script) plan e in
        let there : Contains (planned checks.script) plan = find-contains (λ (p : Planned). p.call.lane == line.lane && p.call.index == line.index) (planned checks.script) plan e in
        let parts = and_parts (plan.call.lane == line.lane) (plan.call.index == line.index) test in
        let same : record { call = plan.call; reply = line.reply } ≡ entry = some-same (record { call = plan.call; reply = line.reply }) entry h in
        let longer : LegalSoFar checks.script (checks.history ++ record { call = plan.call; reply = line.reply } ∷ []) = subst (λ (x : Entry). LegalSoFar checks.script (checks.history ++ x ∷ [])) (sym same) goes.legal in
        record {
          plan = plan;
          next = record {
            next = next-of checks.script checks.history (record { call = plan.call; reply = line.reply }) longer plan there refl;
            lane_is = eqb-true plan.call.lane line.lane parts.0;
            index_is = eqb-true plan.call.index line.index parts.1;
          };
          reply_is = reply-of checks.script checks.history (record { call = plan.call; reply = line.reply }) longer plan there refl;
        }

-- ---- what is answered

-- no such call is next
pub answers-none : (checks : Checks) (line : PrintedCall) (found : Option Planned) → found ≡ None → Finds checks.script checks.history line.lane line.index found → Answers checks line false (record checks { wrong = true })
answers-none checks line None e none = (λ entry goes. let n = goes-next checks line entry goes in none n.plan n.next, refl)
answers-none checks line (Some plan) e next = absurd (none-some plan (sym e))

-- a call was wrong before
pub answers-wrong : (checks : Checks) (line : PrintedCall) → checks.wrong ≡ true → Answers checks line false checks
answers-wrong checks line wrong = (λ entry goes. clash (sym wrong ∙ goes.none_wrong), (λ i. record checks { wrong = wrong i }))
  where
    clash : true ≡ false → ⊥
    clash e = cc

one-next : (script : Script) (history : List Entry) (lane index : ℕ) (one two : Planned) → IsNextAs script history lane index one → IsNextAs script history lane index two → one ≡ two
one-next script history at index one two a b =
    some-same one two
    (sym (subst (λ l. slice_get (planned_of script l) (made history l) ≡ Some one) a.lane_is a.next.next) ∙ subst (λ l. slice_get (planned_of script l) (made history l) ≡ Some two) b.lane_is b.next.next)

pub answers-entered : (checks : Checks) (line : PrintedCall) (plan : Planned) (right : Bool) (after : Checks) → checks.wrong ≡ false → LegalSoFar checks.script checks.history
    → IsNextAs checks.script checks.history line.lane line.index plan → Enters checks plan line.reply right after → Answers checks line right after
answers-entered checks line plan true after none legal next enters =
    let entry : record { call = plan.call; reply = line.reply } ≡ answered checks.script checks.history plan.call = ap (λ (r : Reply). record { call = plan.call; reply = r }) enters.0 in (
      answered checks.script checks.history plan.call,
      record {
        none_wrong = none;
        planned = entry-next checks.script checks.history legal plan next.next line next.lane_is next.index_is ∙ ap Some entry;
        legal = legal-next checks.script checks.history legal plan next.next;
      },
      enters.1,
    )
answers-entered checks line plan false after none legal next enters = (
  λ entry goes.
      let n = goes-next checks line entry goes in
      let same : n.plan ≡ plan = one-next checks.script checks.history line.lane line.index n.plan plan n.next next in
      enters.0 (n.reply_is ∙ ap (λ (p : Planned). (answered checks.script checks.history p.call).reply) same),
  enters.1,
)

-- ---- what is found

module _ (script : Script) (is : IsScript script) (history : List Entry) (legal : LegalSoFar script history) (at index : ℕ) (low : at ≤ 4) (found : Planned) (here : slice_get (planned_of script at) (made history at) ≡ Some found) where
  found-lane : found.call.lane ≡ at
  found-lane = of_lane script at found (contained (planned_of script at) (made history at) found here)

  pub finds-next : found.call.index ≡ index → IsDue script history found.stage → IsNextAs script history at index found
  finds-next same due = record {
    next = record {
      lane = subst (λ l. l ≤ 4) (sym found-lane) low;
      next = subst (λ l. slice_get (planned_of script l) (made history l) ≡ Some found) (sym found-lane) here;
      stages = due-made script is history legal found.stage due;
    };
    lane_is = found-lane;
    index_is = same;
  }

  is-found : (plan : Planned) → IsNextAs script history at index plan → plan ≡ found
  is-found plan next = some-same plan found (sym (subst (λ l. slice_get (planned_of script l) (made history l) ≡ Some plan) next.lane_is next.next.next) ∙ here)

  pub finds-late : (IsDue script history found.stage → ⊥) → (plan : Planned) → IsNextAs script history at index plan → ⊥
  finds-late late plan next =
      late (λ l small early. due-not script is history legal found.stage l small early (subst (λ (p : Planned). AreMadeBelow script history p.stage) (is-found plan next) next.next.stages))
