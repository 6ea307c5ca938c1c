-- What is kept beside a history.
--     kept-new      of no call
--     kept-entered      behind one call more
--     kept-wrong      behind a call that was wrong
--     entered-history, kept-pushed      the same, as the type keeps it
--     next-at      a lane's next call
--     below-counted      what was accepted below a stage
--     few, calls-left, changes-left, count-left      there is room for one more
use Rattle.std.proofs.Common.{◌≡◌, ℕ, suc, ◌+◌, ◌<◌, ◌≤◌, ◌⊎◌, inl, inr, Bool, true, false, cond, ◌==◌, count_by, List, [], ◌∷◌, ◌++◌, length, length-append, get_or, map, filter, nat_lt, take, set, slice_get, Some, refl, sym, ◌∙◌, ap, subst, arith}
use Rattle.std.specs.Option.{option_map_or}
use Rattle.std.proofs.lemmas.List.{map-append, length-map, take-append-le, take_at}
use Rattle.std.proofs.lemmas.List.Sums.{sum_by_push, sum_by-cons}
use Rattle.std.proofs.lemmas.Option.{slice_get_within}
use Rattle.jack_types.specs.declared.commands.Call.{Call}
use Rattle.jack_types.specs.declared.commands.Change.{Change}
use Rattle.jack_types.specs.declared.replies.Entry.{Entry}
use Rattle.jack_types.specs.declared.replies.Reply.{Reply}
use Rattle.jack_types.specs.declared.replies.Reply.TheVariants.{Accepted, Refused, Latency as Told}
use Rattle.cycle_plan.specs.Graphs.{HasTempo}
use Rattle.graph_replies.specs.Told.{HasShortDelays}
use Rattle.lane_calls.specs.Plans.{plan_of as plan_with}
use Rattle.port_registry.proofs.PlaceLemmas.{slice_get-push}
use Rattle.session_model.specs.Commands.{after, refusal}
use Rattle.session_model.specs.Grammar.{IsScript}
use Rattle.session_model.specs.Histories.{accepted, accepted_below, calls_of, plan_of, stage_of, state_after}
use Rattle.session_model.specs.Replies.{reply}
use Rattle.session_model.specs.Samples.{below}
use Rattle.session_model.specs.Scripts.{Script, Planned, planned_of}
use Rattle.session_model.specs.Serial.{answered}
use Rattle.session_model.specs.State.{State, opening}
use Rattle.session_laws.proofs.ActivationLemmas.{get_or-map_below}
use Rattle.session_laws.proofs.HistoryLemmas.{LegalSoFar-none}
use Rattle.session_laws.proofs.SerialLemmas.{plan_of-planned}
use Rattle.call_laws.proofs.ItemLemmas.{none-some}
use Rattle.call_laws.proofs.KeptLemmas.{counts-set, state-answered}
use Rattle.call_laws.proofs.RoomLemmas.{accepted-length, accepted-push}
use Rattle.call_laws.proofs.ScriptLemmas.{planned-lawful}
use Rattle.call_laws.proofs.StateLemmas.{command-tempo}
use Rattle.call_checks.specs.Checks.{Checks}
use Rattle.call_checks.specs.Kept.{Enters, IsKept, IsNext, IsNoted, entry_of, is_below, made}
use Rattle.call_checks.specs.declared.checks.RightCall.{RightCall}
use Rattle.call_checks.proofs.NextLemmas.{legal-next, next-planned}
use Rattle.call_checks.proofs.RoomLemmas.{history-few}
use Rattle.call_checks.proofs.StateLemmas.{short-after, short-opening}

-- ---- the state behind a call

-- ---- how many calls the lanes made

pub made-push : (history : List Entry) (entry : Entry) (lane : ℕ) → made (history ++ entry ∷ []) lane ≡ made history lane + cond (entry.call.lane == lane) 1 0
made-push history entry lane = ap (count_by (λ (call : Call). call.lane == lane)) (pushed history) ∙ sum_by_push (λ (call : Call). cond (call.lane == lane) 1 0) (calls_of history) entry.call
  where
    pushed : (es : List Entry) → calls_of (es ++ entry ∷ []) ≡ calls_of es ++ entry.call ∷ []
    pushed [] = refl
    pushed (e ∷ es) = ap (λ cs. e.call ∷ cs) (pushed es)

pub counts-made : (history : List Entry) (entry : Entry) → entry.call.lane ≤ 4 → set (map (made history) (below 5)) entry.call.lane (made history entry.call.lane + 1) ≡ map (made (history ++ entry ∷ [])) (below 5)
counts-made history entry low = counts-set (made history) (made (history ++ entry ∷ [])) entry.call.lane low (made-push history entry)

-- ---- what is kept

pub kept-new : (script : Script) (calls : List (List Planned)) (counts : List ℕ) (state : State) → IsScript script → calls ≡ map (planned_of script) (below 5) → counts ≡ 0 ∷ 0 ∷ 0 ∷ 0 ∷ 0 ∷ [] → state ≡ opening script.header.capture script.header.playback
    → IsKept (record { script = script; history = []; wrong = false }) calls counts [] [] state
kept-new script calls counts state is planned_ones none start = record {
  script_is = is;
  legal = LegalSoFar-none script;
  calls_are = planned_ones;
  counts_are = none;
  noted = λ place one at. absurd (none-some one at);
  changes_are = refl;
  state_is = λ _. start;
  short = short-opening script.header.capture script.header.playback;
}

pub kept-wrong : (checks : Checks) (calls : List (List Planned)) (counts : List ℕ) (right : List RightCall) (changes : List Change) (state other : State) → IsKept checks calls counts right changes state
    → IsKept (record checks { wrong = true }) calls counts right changes other
kept-wrong checks calls counts right changes state other is = record {
  script_is = is.script_is;
  legal = is.legal;
  calls_are = is.calls_are;
  counts_are = is.counts_are;
  noted = is.noted;
  changes_are = is.changes_are;
  state_is = λ e. absurd (clash e);
  short = is.short;
}
  where
    clash : true ≡ false → ⊥
    clash e = cc

module _ (checks : Checks) (calls : List (List Planned)) (counts : List ℕ) (right : List RightCall) (changes : List Change) (state : State) (is : IsKept checks calls counts right changes state) where
  count-at : (lane : ℕ) → lane ≤ 4 → get_or counts lane 0 ≡ made checks.history lane
  count-at lane low = ap (λ cs. get_or cs lane 0) is.counts_are ∙ get_or-map_below (made checks.history) 5 lane 0 (omega (arith, low))

  pub next-at : (lane : ℕ) → lane ≤ 4 → slice_get (get_or calls lane []) (get_or counts lane 0) ≡ slice_get (planned_of checks.script lane) (made checks.history lane)
  next-at lane low =
      ap (λ plans. slice_get plans (get_or counts lane 0)) (ap (λ cs. get_or cs lane []) is.calls_are ∙ get_or-map_below (planned_of checks.script) 5 lane [] (omega (arith, low)))
      ∙ ap (slice_get (planned_of checks.script lane)) (count-at lane low)

  pub few : length checks.history ≤ 4096
  few = history-few checks.script is.script_is checks.history is.legal

  module _ (plan : Planned) (next : IsNext checks.script checks.history plan) where
    abbrev entry : Entry
    entry = answered checks.script checks.history plan.call

    pub calls-left : length checks.history < 4096
    calls-left =
        let all : length (checks.history ++ entry ∷ []) ≤ 4096 = history-few checks.script is.script_is (checks.history ++ entry ∷ []) (legal-next checks.script checks.history is.legal plan next) in
        let size : length (checks.history ++ entry ∷ []) ≡ length checks.history + 1 = length-append checks.history (entry ∷ []) in
        omega (arith, all, size)

    pub changes-left : length changes < 4096
    changes-left = let same : length changes ≡ length (accepted checks.history) = ap length is.changes_are in let fewer = accepted-length checks.history in omega (arith, same, fewer, calls-left)

    pub count-left : get_or counts plan.call.lane 0 < 4096
    count-left =
        let at : get_or counts plan.call.lane 0 ≡ made checks.history plan.call.lane = count-at plan.call.lane next.lane in
        let fewer = counted (calls_of checks.history) in
        let size : length (calls_of checks.history) ≡ length checks.history = length-map checks.history (λ (e : Entry). e.call) in
        omega (arith, at, fewer, size, calls-left)
      where
        counted : (cs : List Call) → count_by (λ (call : Call). call.lane == plan.call.lane) cs ≤ length cs
        counted [] = omega arith
        counted (c ∷ cs) =
            let sum : count_by (λ (call : Call). call.lane == plan.call.lane) (c ∷ cs) ≡ cond (c.lane == plan.call.lane) 1 0 + count_by (λ (call : Call). call.lane == plan.call.lane) cs = sum_by-cons (λ (call : Call). cond (call.lane == plan.call.lane) 1 0) c cs in
            omega (arith, sum, counted cs, small (c.lane == plan.call.lane))
          where
            small : (b : Bool) → cond b 1 0 ≤ 1
            small true = omega arith
            small false = omega arith

    pub tempo-next : HasTempo plan.call.command
    tempo-next = command-tempo checks.script.header plan.call.command (planned-lawful checks.script is.script_is plan (next-planned checks.script checks.history is.legal plan next))

    module _ (none : checks.wrong ≡ false) where
      pub short-now : HasShortDelays state
      short-now = subst HasShortDelays (sym (is.state_is none)) is.short

      -- the graph's reply
      pub reply-now : (given : Reply) (number : ℕ) → given ≡ reply state number plan.call.command → number ≡ length changes + 1 → given ≡ entry.reply
      reply-now given number e n =
          e ∙ ap (λ (m : ℕ). reply state m plan.call.command) n ∙ ap (λ (s : State). reply s (length changes + 1) plan.call.command) (is.state_is none)
          ∙ ap (λ (cs : List Change). reply (state_after checks.script checks.history) (length cs + 1) plan.call.command) is.changes_are

      module _ (one : RightCall) (plan_is : plan_with one.planned ≡ plan) (entry_is : entry_of one ≡ entry) (before_is : one.before ≡ length changes) (size : length right ≡ length checks.history) where
        abbrev longer : List Entry
        longer = checks.history ++ entry ∷ []

        noted-longer : (place : ℕ) (x : RightCall) → slice_get (right ++ one ∷ []) place ≡ Some x → IsNoted checks.script longer place x
        noted-longer place x at = go (slice_get-push right one place x at)
          where
            go : (slice_get right place ≡ Some x) ⊎ ((place ≡ length right) × (one ≡ x)) → IsNoted checks.script longer place x
            go (inl old) =
                let noted : IsNoted checks.script checks.history place x = is.noted place x old in
                let inside : place < length right = slice_get_within right place x old in
                record { plan = noted.plan; before = noted.before ∙ ap (λ es. length (accepted es)) (sym (take-append-le place checks.history (entry ∷ []) (omega (arith, inside, size)))) }
            go (inr p) =
                let front : take place longer ≡ checks.history = take_at checks.history (entry ∷ []) place (omega (arith, size, p.0)) in
                subst (IsNoted checks.script longer place) p.1 (record {
                  plan = ap (λ (e : Entry). plan_of checks.script e.call) entry_is ∙ plan_of-planned checks.script plan (next-planned checks.script checks.history is.legal plan next) ∙ ap Some (sym plan_is);
                  before = before_is ∙ ap length is.changes_are ∙ ap (λ es. length (accepted es)) (sym front);
                })

        pub kept-entered : (new_counts : List ℕ) (new_changes : List Change) (new_state : State) (number : ℕ) → number ≡ length changes + 1
            → new_counts ≡ set counts plan.call.lane (get_or counts plan.call.lane 0 + 1) → new_changes ≡ changes ++ accepted (entry_of one ∷ []) → new_state ≡ after state number plan.call.command
            → IsKept (record checks { history = longer }) calls new_counts (right ++ one ∷ []) new_changes new_state
        kept-entered new_counts new_changes new_state number n counted more behind = record {
          script_is = is.script_is;
          legal = legal-next checks.script checks.history is.legal plan next;
          calls_are = is.calls_are;
          counts_are =
              counted ∙ ap (λ m. set counts plan.call.lane (m + 1)) (count-at plan.call.lane next.lane) ∙ ap (λ cs. set cs plan.call.lane (made checks.history plan.call.lane + 1)) is.counts_are
              ∙ counts-made checks.history entry next.lane;
          noted = noted-longer;
          changes_are = more ∙ ap (λ e. changes ++ accepted (e ∷ [])) entry_is ∙ ap (λ cs. cs ++ accepted (entry ∷ [])) is.changes_are ∙ sym (accepted-push checks.history entry);
          state_is = λ _.
              behind ∙ ap (λ m. after state m plan.call.command) n ∙ ap (λ s. after s (length changes + 1) plan.call.command) (is.state_is none)
              ∙ ap (λ cs. after (state_after checks.script checks.history) (length cs + 1) plan.call.command) is.changes_are ∙ sym (state-answered checks.script checks.history plan.call);
          short =
              subst HasShortDelays (sym (state-answered checks.script checks.history plan.call))
              (short-after checks.script.header (state_after checks.script checks.history) (length (accepted checks.history) + 1) plan.call.command
              (planned-lawful checks.script is.script_is plan (next-planned checks.script checks.history is.legal plan next)) is.short);
        }

-- ---- a call that is entered, as the type keeps it

module _ (script : Script) (wrong : Bool) (calls : List (List Planned)) (counts : List ℕ) (right : List RightCall) (changes : List Change) (state : State)
    (is : IsKept (record { script = script; history = map entry_of right; wrong = wrong }) calls counts right changes state)
    (plan : Planned) (next : IsNext script (map entry_of right) plan) (none : wrong ≡ false) (one : RightCall) (plan_is : plan_with one.planned ≡ plan)
    (number : ℕ) (replied : one.reply ≡ reply state number plan.call.command) (number_is : number ≡ length changes + 1) (items : List RightCall) (pushed : items ≡ right ++ one ∷ []) where
  abbrev checks : Checks
  checks = record { script = script; history = map entry_of right; wrong = wrong }

  same-entry : entry_of one ≡ answered script (map entry_of right) plan.call
  same-entry =
      ap (λ (p : Planned). record { call = p.call; reply = one.reply }) plan_is
      ∙ ap (λ (r : Reply). record { call = plan.call; reply = r }) (reply-now checks calls counts right changes state is plan next none one.reply number replied number_is)

  pub entered-history : map entry_of items ≡ map entry_of right ++ answered script (map entry_of right) plan.call ∷ []
  entered-history = ap (map entry_of) pushed ∙ map-append entry_of right (one ∷ []) ∙ ap (λ e. map entry_of right ++ e ∷ []) same-entry

  pub kept-pushed : (new_counts : List ℕ) (new_changes : List Change) (new_state : State) → one.before ≡ length changes
      → new_counts ≡ set counts plan.call.lane (get_or counts plan.call.lane 0 + 1) → new_changes ≡ changes ++ accepted (entry_of one ∷ []) → new_state ≡ after state number plan.call.command
      → IsKept (record { script = script; history = map entry_of items; wrong = wrong }) calls new_counts items new_changes new_state
  kept-pushed new_counts new_changes new_state before counted more behind =
      subst (λ es. IsKept (record { script = script; history = es; wrong = wrong }) calls new_counts items new_changes new_state) (sym entered-history)
      (subst (λ its. IsKept (record { script = script; history = map entry_of right ++ answered script (map entry_of right) plan.call ∷ []; wrong = wrong }) calls new_counts its new_changes new_state) (sym pushed)
      (kept-entered checks calls counts right changes state is plan next none one plan_is same-entry before (sym (length-map right entry_of)) new_counts new_changes new_state number number_is counted more behind))

-- ---- what was accepted below a stage

module _ (script : Script) (stage : ℕ) where
  abbrev is_low : Entry → Bool
  is_low entry = nat_lt (stage_of script entry.call) stage

  -- one call more counts where it is accepted and of a lower stage
  one-counted : (one : RightCall) (entries : List Entry) → plan_of script one.planned.call ≡ Some (plan_with one.planned)
      → length (accepted (filter is_low (entry_of one ∷ entries))) ≡ cond (is_below stage one) 1 0 + length (accepted (filter is_low entries))
  one-counted one entries plan = ap (λ b. length (accepted (cond b (entry_of one ∷ filter is_low entries) (filter is_low entries)))) low ∙ go one.reply (nat_lt one.planned.stage stage) refl refl
    where
      low : is_low (entry_of one) ≡ nat_lt one.planned.stage stage
      low = ap (λ o. nat_lt (option_map_or (λ (p : Planned). p.stage) o 0) stage) plan

      go : (r : Reply) (b : Bool) → one.reply ≡ r → nat_lt one.planned.stage stage ≡ b
          → length (accepted (cond (nat_lt one.planned.stage stage) (entry_of one ∷ filter is_low entries) (filter is_low entries))) ≡ cond (is_below stage one) 1 0 + length (accepted (filter is_low entries))
      go (Accepted number) true e t = rw (e, t) (omega arith)
      go (Accepted number) false e t = rw (e, t) (omega arith)
      go (Refused refusal) true e t = rw (e, t) (omega arith)
      go (Refused refusal) false e t = rw (e, t) (omega arith)
      go (Told range) true e t = rw (e, t) (omega arith)
      go (Told range) false e t = rw (e, t) (omega arith)

  pub below-counted : (right : List RightCall) → ((place : ℕ) (one : RightCall) → slice_get right place ≡ Some one → plan_of script one.planned.call ≡ Some (plan_with one.planned))
      → accepted_below script (map entry_of right) stage ≡ count_by (is_below stage) right
  below-counted [] plans = refl
  below-counted (one ∷ right) plans =
      one-counted one (map entry_of right) (plans 0 one refl) ∙ ap (λ n. cond (is_below stage one) 1 0 + n) (below-counted right (λ place other at. plans (suc place) other at))
      ∙ sym (sum_by-cons (λ (x : RightCall). cond (is_below stage x) 1 0) one right)

-- what is answered of the fields is answered of the value
pub enters-right : (inside value : Checks) (plan : Planned) (told : Reply) (after : Checks) → inside ≡ value → told ≡ (answered inside.script inside.history plan.call).reply
    → after ≡ record inside { history = inside.history ++ answered inside.script inside.history plan.call ∷ [] } → Enters value plan told true after
enters-right inside value plan told after view reply behind = subst (λ v. Enters v plan told true after) view (reply, behind)
