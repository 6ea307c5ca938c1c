-- A history goes on.
--     legal-next      one call more, which may come next
--     past-made      what is kept beside a history, behind one call more
--     next-at      a lane's next call
--     calls-left, changes-left, count-left      there is room for one more
use Rattle.std.proofs.Common.{◌≡◌, ℕ, ◌+◌, ◌<◌, ◌≤◌, Bool, true, false, cond, ◌==◌, count_by, List, [], ◌∷◌, ◌++◌, length, length-append, get_or, map, set, slice_get, Contains, refl, sym, ◌∙◌, ap, subst, arith}
use Rattle.std.proofs.lemmas.List.Sums.{sum_by_push, sum_by-cons}
use Rattle.jack_types.specs.declared.commands.Call.{Call}
use Rattle.jack_types.specs.declared.commands.Change.{Change}
use Rattle.jack_types.specs.declared.replies.Entry.{Entry}
use Rattle.jack_types.specs.declared.replies.Reply.{Reply}
use Rattle.session_model.specs.Commands.{after}
use Rattle.session_model.specs.Histories.{LegalSoFar, accepted, calls_of, plan_of, state_after}
use Rattle.session_model.specs.Replies.{reply}
use Rattle.session_model.specs.Samples.{below}
use Rattle.session_model.specs.Scripts.{Script, Planned, planned, planned_of}
use Rattle.session_model.specs.Serial.{answered}
use Rattle.session_model.specs.State.{State}
use Rattle.session_laws.proofs.ActivationLemmas.{get_or-map_below}
use Rattle.session_laws.proofs.HistoryLemmas.{IsNextCall, LegalSoFar-next}
use Rattle.session_laws.proofs.ListLemmas.{Contains-filtered, map-take}
use Rattle.session_laws.proofs.SerialLemmas.{plan_of-planned}
use Rattle.call_laws.specs.cycle_plan.specs.Graphs.{HasTempo}
use Rattle.graph_replies.specs.Told.{HasShortDelays}
use Rattle.call_laws.proofs.ItemLemmas.{contained, length-mapped, mapped_some, some-same}
use Rattle.call_laws.proofs.KeptLemmas.{counts-set, state-answered}
use Rattle.call_laws.proofs.RoomLemmas.{accepted-length, accepted-push}
use Rattle.call_laws.proofs.ScriptLemmas.{planned-lawful}
use Rattle.call_laws.proofs.StateLemmas.{command-tempo}
use Rattle.control_desk.specs.Desks.{made}
use Rattle.control_desk.specs.Past.{IsNext, IsPast, Past}
use Rattle.control_desk.proofs.AcceptedLemmas.{history-few, state-short}
use Rattle.control_desk.proofs.LaneLemmas.{lane_front}

module _ (script : Script) (history : List Entry) (legal : LegalSoFar script history) (plan : Planned) (next : IsNext script history plan) where
  pub next-planned : Contains (planned script) plan
  next-planned = Contains-filtered (λ (p : Planned). p.call.lane == plan.call.lane) (planned script) plan (contained (planned_of script plan.call.lane) (made history plan.call.lane) plan next.next)

  next-call : IsNextCall script history plan.call
  next-call = record {
    lane = next.lane;
    made = made history plan.call.lane;
    so_far = lane_front script history legal plan.call.lane next.lane ∙ map-take (λ (p : Planned). p.call) (made history plan.call.lane) (planned_of script plan.call.lane);
    next = mapped_some (λ (p : Planned). p.call) (planned_of script plan.call.lane) (made history plan.call.lane) plan next.next;
    stages = λ other earlier there same earlier_there lower. next.stages earlier earlier_there (subst (λ (p : Planned). earlier.stage < p.stage) (one other there same) lower);
  }
    where
      one : (other : Planned) → Contains (planned script) other → other.call ≡ plan.call → other ≡ plan
      one other there same = some-same other plan (sym (plan_of-planned script other there) ∙ ap (λ c. plan_of script c) same ∙ plan_of-planned script plan next-planned)

  pub legal-next : LegalSoFar script (history ++ answered script history plan.call ∷ [])
  legal-next = LegalSoFar-next script history plan.call legal next-call

-- ---- the state behind a call

-- ---- how many calls the lanes made

pub made-push : (history : List Entry) (entry : Entry) (lane : ℕ) → made (history ++ entry ∷ []) lane ≡ made history lane + cond (entry.call.lane == lane) 1 0
made-push history entry lane = ap (count_by (λ (call : Call). call.lane == lane)) (pushed history) ∙ sum_by_push (λ (call : Call). cond (call.lane == lane) 1 0) (calls_of history) entry.call
  where
    pushed : (es : List Entry) → calls_of (es ++ entry ∷ []) ≡ calls_of es ++ entry.call ∷ []
    pushed [] = refl
    pushed (e ∷ es) = ap (λ cs. e.call ∷ cs) (pushed es)

pub counts-made : (history : List Entry) (entry : Entry) → entry.call.lane ≤ 4 → set (map (made history) (below 5)) entry.call.lane (made history entry.call.lane + 1) ≡ map (made (history ++ entry ∷ [])) (below 5)
counts-made history entry low = counts-set (made history) (made (history ++ entry ∷ [])) entry.call.lane low (made-push history entry)

-- ---- what is kept

IsPast-made : (past : Past) (calls : List (List Planned)) (counts new_counts : List ℕ) (changes new_changes : List Change) (state new_state : State) (plan : Planned) → IsPast past calls counts changes state → IsNext past.script past.history plan
    → new_counts ≡ set counts plan.call.lane (made past.history plan.call.lane + 1) → new_changes ≡ changes ++ accepted (answered past.script past.history plan.call ∷ []) → new_state ≡ after state (length changes + 1) plan.call.command
    → IsPast (record { script = past.script; history = past.history ++ answered past.script past.history plan.call ∷ [] }) calls new_counts new_changes new_state
IsPast-made past calls counts new_counts changes new_changes state new_state plan is next counted longer behind = record {
  script_is = is.script_is;
  legal = legal-next past.script past.history is.legal plan next;
  calls_are = is.calls_are;
  counts_are = counted ∙ ap (λ cs. set cs plan.call.lane (made past.history plan.call.lane + 1)) is.counts_are ∙ counts-made past.history (answered past.script past.history plan.call) next.lane;
  changes_are = longer ∙ ap (λ cs. cs ++ accepted (answered past.script past.history plan.call ∷ [])) is.changes_are ∙ sym (accepted-push past.history (answered past.script past.history plan.call));
  state_is =
      behind ∙ ap (λ s. after s (length changes + 1) plan.call.command) is.state_is ∙ ap (λ cs. after (state_after past.script past.history) (length cs + 1) plan.call.command) is.changes_are
      ∙ sym (state-answered past.script past.history plan.call);
}

-- ---- the next call

module _ (past : Past) (calls : List (List Planned)) (counts : List ℕ) (changes : List Change) (state : State) (is : IsPast past calls counts changes state) where
  count-at : (lane : ℕ) → lane ≤ 4 → get_or counts lane 0 ≡ made past.history lane
  count-at lane low = ap (λ cs. get_or cs lane 0) is.counts_are ∙ get_or-map_below (made past.history) 5 lane 0 (omega (arith, low))

  pub next-at : (lane : ℕ) → lane ≤ 4 → slice_get (get_or calls lane []) (get_or counts lane 0) ≡ slice_get (planned_of past.script lane) (made past.history lane)
  next-at lane low =
      ap (λ plans. slice_get plans (get_or counts lane 0)) (ap (λ cs. get_or cs lane []) is.calls_are ∙ get_or-map_below (planned_of past.script) 5 lane [] (omega (arith, low)))
      ∙ ap (slice_get (planned_of past.script lane)) (count-at lane low)

  module _ (plan : Planned) (next : IsNext past.script past.history plan) where
    pub calls-left : length past.history < 4096
    calls-left =
        let few : length (past.history ++ answered past.script past.history plan.call ∷ []) ≤ 4096 =
        history-few past.script is.script_is (past.history ++ answered past.script past.history plan.call ∷ []) (legal-next past.script past.history is.legal plan next) in
        let size : length (past.history ++ answered past.script past.history plan.call ∷ []) ≡ length past.history + 1 = length-append past.history (answered past.script past.history plan.call ∷ []) in
        omega (arith, few, size)

    pub changes-left : length changes < 4096
    changes-left = let same : length changes ≡ length (accepted past.history) = ap length is.changes_are in let fewer = accepted-length past.history in omega (arith, same, fewer, calls-left)

    pub count-left : get_or counts plan.call.lane 0 < 4096
    count-left =
        let at : get_or counts plan.call.lane 0 ≡ made past.history plan.call.lane = count-at plan.call.lane next.lane in
        let fewer = counted (calls_of past.history) in
        let size : length (calls_of past.history) ≡ length past.history = length-mapped (λ (e : Entry). e.call) past.history in
        omega (arith, at, fewer, size, calls-left)
      where
        counted : (cs : List Call) → count_by (λ (call : Call). call.lane == plan.call.lane) cs ≤ length cs
        counted [] = omega arith
        counted (c ∷ cs) =
            let sum : count_by (λ (call : Call). call.lane == plan.call.lane) (c ∷ cs) ≡ cond (c.lane == plan.call.lane) 1 0 + count_by (λ (call : Call). call.lane == plan.call.lane) cs = sum_by-cons (λ (call : Call). cond (call.lane == plan.call.lane) 1 0) c cs in
            omega (arith, sum, counted cs, small (c.lane == plan.call.lane))
          where
            small : (b : Bool) → cond b 1 0 ≤ 1
            small true = omega arith
            small false = omega arith

    pub tempo-next : HasTempo plan.call.command
    tempo-next = command-tempo past.script.header plan.call.command (planned-lawful past.script is.script_is plan (next-planned past.script past.history is.legal plan next))

    pub short-now : HasShortDelays state
    short-now = subst HasShortDelays (sym is.state_is) (state-short past.script is.script_is past.history is.legal)

    -- the entry that is made
    pub entry-answered : (given : Reply) (number : ℕ) → given ≡ reply state number plan.call.command → number ≡ length changes + 1 → record { call = plan.call; reply = given } ≡ answered past.script past.history plan.call
    entry-answered given number e n =
        ap (λ (r : Reply). record { call = plan.call; reply = r })
        (e ∙ ap (λ (m : ℕ). reply state m plan.call.command) n ∙ ap (λ (s : State). reply s (length changes + 1) plan.call.command) is.state_is
        ∙ ap (λ (cs : List Change). reply (state_after past.script past.history) (length cs + 1) plan.call.command) is.changes_are)

    pub past-made : (new_counts : List ℕ) (new_changes : List Change) (new_state : State) (given : Reply) (number : ℕ) (history : List Entry) → given ≡ reply state number plan.call.command → number ≡ length changes + 1
        → new_counts ≡ set counts plan.call.lane (get_or counts plan.call.lane 0 + 1) → new_changes ≡ changes ++ accepted (record { call = plan.call; reply = given } ∷ []) → new_state ≡ after state number plan.call.command
        → history ≡ past.history ++ record { call = plan.call; reply = given } ∷ []
        → IsPast (record { script = past.script; history = history }) calls new_counts new_changes new_state
    past-made new_counts new_changes new_state given number history e n counted longer behind entered =
        let entry : record { call = plan.call; reply = given } ≡ answered past.script past.history plan.call = entry-answered given number e n in
        subst (λ es. IsPast (record { script = past.script; history = es }) calls new_counts new_changes new_state) (sym (entered ∙ ap (λ x. past.history ++ x ∷ []) entry))
        (IsPast-made past calls counts new_counts changes new_changes state new_state plan is next
        (counted ∙ ap (λ m. set counts plan.call.lane (m + 1)) (count-at plan.call.lane next.lane))
        (longer ∙ ap (λ x. changes ++ accepted (x ∷ [])) entry)
        (behind ∙ ap (λ m. after state m plan.call.command) n))
