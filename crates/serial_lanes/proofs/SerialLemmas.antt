-- What the lanes of a desk make in serial mode.
--     steps-make      a lane that saw no later cycle makes just what is due
--     group-makes, round-makes      lane 0 at a phase's beginning, and a round
use Rattle.std.proofs.Common.{◌≡◌, ◌≢◌, inl, inr, ℕ, zero, suc, ◌+◌, ◌*◌, ◌<◌, ◌≤◌, cond, ◌==◌, eq-eqb, List, [], ◌∷◌, ◌++◌, length, drop, slice_get, Contains, Some, refl, sym, ◌∙◌, ap, ap₂, subst, arith, append_assoc, append-nil}
use Rattle.std.proofs.lemmas.List.Elements.{All-contains, Contains-append_right, filter-append}
use Rattle.graph_word.specs.Publications.{Publishing}
use Rattle.session_model.specs.Grammar.{IsScript}
use Rattle.session_model.specs.Publication.{SeenPair}
use Rattle.session_model.specs.Scripts.{Script, Phase, Planned, phases, planned_of}
use Rattle.session_model.specs.Serial.{answered, do_calls, due, lanes_at, history_with}
use Rattle.session_laws.proofs.ListLemmas.{Each, Each-from_contains}
use Rattle.session_laws.proofs.LoopLemmas.{Contains-first}
use Rattle.control_desk.specs.Desks.{Desk, IsDone, LooksBy, Makes, Waits, made, next_call}
use Rattle.serial_lanes.specs.Lanes.{BehindPhases, IsRound, LaneRuns, LaneSteps, SawUpTo, SerialDesk, Stops, calls_behind, calls_until, cycles_begun}
use Rattle.serial_lanes.specs.Laws.{RoundOfLanes}
use Rattle.control_desk.proofs.LaneLemmas.{within-some}
use Rattle.serial_lanes.proofs.CallFronts.{calls-next_round}
use Rattle.serial_lanes.proofs.GroupLemmas.{dos_are, dos_wait, group_waits}
use Rattle.control_desk.specs.call_laws.proofs.ItemLemmas.{contained, none-some, some-same}
use Rattle.serial_lanes.proofs.ItemLemmas.{first_of_rest, none_of_rest, rest_behind}
use Rattle.serial_lanes.proofs.MadeLemmas.{made_behind, within-here}
use Rattle.serial_lanes.proofs.NumberLemmas.{history_append}
use Rattle.serial_lanes.proofs.PhaseLemmas.{group_left}
use Rattle.serial_lanes.proofs.RoundLemmas.{due_is, due_other, lane_round, on_lane}
use Rattle.serial_lanes.proofs.StepLemmas.{On, made-behind, on-lane, on-lanes, on-later, on-makes, on-steps, plan-there, saw-earlier}

-- a call that a lane makes where cycle k was begun last; those of lane 0 wait for nothing
pub record IsDue (lane phases k : ℕ) (plan : Planned) : Type 0 where
  pub own : plan.call.lane ≡ lane
  pub begun : plan.stage < 2 * phases
  pub asked : plan.asked ≤ k
  pub group : lane ≡ 0 → plan.asked ≡ 0

-- a call that it does not make: it is of a later phase, or asks for a later cycle
abbrev pub IsLate : ℕ → ℕ → ℕ → Planned → Type 0
IsLate lane phases k plan = plan.stage < 2 * phases → (1 ≤ lane) × (k < plan.asked)

-- a lane that stops has nothing due
nothing-due : (desk after : Desk) (lane k : ℕ) (plan : Planned) → Stops desk lane after → slice_get (planned_of desk.script lane) (made desk.history lane) ≡ Some plan → IsDue lane desk.phase k plan → k ≤ desk.publishing.least → ⊥
nothing-due desk after lane k plan stops there due least = go stops
  where
    next : next_call desk lane ≡ Some plan
    next = within-here desk.phase (slice_get (planned_of desk.script lane) (made desk.history lane)) plan there due.begun

    behind : (l : ℕ) (asked seen : ℕ) → l ≡ lane → LooksBy l desk.publishing seen after.publishing → asked ≡ plan.asked → seen < asked → ⊥
    behind zero asked seen e looks is low = let none = due.group (sym e) in omega (arith, none, is, low)
    behind (suc l) asked seen e looks is low = let p = looks.least in let q = due.asked in omega (arith, p, q, is, low, least)

    go : Stops desk lane after → ⊥
    go (inl waits) =
        let same : waits.2.plan ≡ plan = some-same waits.2.plan plan (sym waits.2.next ∙ next) in
        behind lane waits.0 waits.1 refl waits.2.looks (waits.2.asked_is ∙ ap (λ (p : Planned). p.asked) same) waits.2.behind
    go (inr done) = none-some plan (sym done.0 ∙ next)

-- a call that is made was seen to be due
never-late : (desk between : Desk) (lane k : ℕ) (reply : _) (makes : Makes desk lane reply between) → IsLate lane desk.phase k makes.plan → (1 ≤ lane → SawUpTo k between) → ⊥
never-late desk between lane k reply makes late saw = let is = late (plan-there desk lane reply between makes).1 in go lane refl is makes.looks (saw is.0)
  where
    go : (l : ℕ) → l ≡ lane → (1 ≤ lane) × (k < makes.plan.asked) → LooksBy l desk.publishing makes.seen makes.looked → SawUpTo k between → ⊥
    go zero e is looks seen = let p = is.0 in omega (arith, p, e)
    go (suc l) e is looks seen =
        let pair : SeenPair = record { cycle = makes.seen; number = length desk.publishing.all } in
        let pairs : between.publishing.pairs ≡ desk.publishing.pairs ++ pair ∷ [] = ap (λ (p : Publishing). p.pairs) makes.publishes ∙ ap (λ (p : Publishing). p.pairs) looks.after_is in
        let there : Contains between.publishing.pairs pair = subst (λ ps. Contains ps pair) (sym pairs) (Contains-append_right desk.publishing.pairs (pair ∷ []) pair (Contains-first pair [])) in
        let low : makes.seen ≤ k = All-contains (λ (p : SeenPair). p.cycle ≤ k) between.publishing.pairs pair seen there in
        let asked = makes.asked in
        let high = is.1 in
        omega (arith, low, asked, high)

module _ (script : Script) (lane phases k : ℕ) where
  -- a lane makes the calls due one after another, and then stops
  pub steps-make : (calls : ℕ) (desk after : Desk) (now later : List Planned) → desk.script ≡ script → desk.phase ≡ phases → LaneSteps calls desk lane after
      → drop (made desk.history lane) (planned_of script lane) ≡ now ++ later → Each (IsDue lane phases k) now → Each (IsLate lane phases k) later
      → k ≤ desk.publishing.least → (1 ≤ lane → SawUpTo k after) → after.history ≡ history_with script desk.history now
  steps-make zero desk after [] later same phase stops left due late least saw = stays stops
    where
      stays : Stops desk lane after → after.history ≡ desk.history
      stays (inl waits) = ap (λ (d : Desk). d.history) waits.2.same
      stays (inr done) = ap (λ (d : Desk). d.history) done.1
  steps-make zero desk after (plan ∷ now) later same phase stops left due late least saw =
      absurd (nothing-due desk after lane k plan stops
      (ap (λ s. slice_get (planned_of s lane) (made desk.history lane)) same ∙ first_of_rest (planned_of script lane) (made desk.history lane) plan (now ++ later) left)
      (subst (λ n. IsDue lane n k plan) (sym phase) due.0) least)
  steps-make (suc calls) desk after [] later same phase steps left due late least saw = absurd (go later left late)
    where
      makes : Makes desk lane steps.0 steps.1
      makes = steps.2

      there : slice_get (planned_of script lane) (made desk.history lane) ≡ Some makes.plan
      there = ap (λ s. slice_get (planned_of s lane) (made desk.history lane)) (sym same) ∙ (plan-there desk lane steps.0 steps.1 makes).0

      seen : 1 ≤ lane → SawUpTo k steps.1
      seen some = saw-earlier k steps.1 after (on-steps calls steps.1 lane after steps.3) (saw some)

      go : (later : List Planned) → drop (made desk.history lane) (planned_of script lane) ≡ later → Each (IsLate lane phases k) later → ⊥
      go [] left late = none-some makes.plan (sym (none_of_rest (planned_of script lane) (made desk.history lane) left) ∙ there)
      go (plan ∷ later) left late =
          let is : plan ≡ makes.plan = some-same plan makes.plan (sym (first_of_rest (planned_of script lane) (made desk.history lane) plan later left) ∙ there) in
          never-late desk steps.1 lane k steps.0 makes (subst (λ n. IsLate lane n k makes.plan) (sym phase) (subst (IsLate lane phases k) is late.0)) seen
  steps-make (suc calls) desk after (plan ∷ now) later same phase steps left due late least saw =
      steps-make calls steps.1 after now later (on.script ∙ same) (on.phase ∙ phase) steps.3 rest due.1 late (let p = on.looks.least in omega (arith, p, least)) saw
      ∙ ap (λ es. history_with script es now) longer
    where
      makes : Makes desk lane steps.0 steps.1
      makes = steps.2

      on : On desk steps.1
      on = on-makes desk lane steps.0 steps.1 makes

      is : makes.plan ≡ plan
      is =
          some-same makes.plan plan
          (sym (plan-there desk lane steps.0 steps.1 makes).0 ∙ ap (λ s. slice_get (planned_of s lane) (made desk.history lane)) same
          ∙ first_of_rest (planned_of script lane) (made desk.history lane) plan (now ++ later) left)

      longer : steps.1.history ≡ desk.history ++ answered script desk.history plan.call ∷ []
      longer = makes.history ∙ ap (λ s. desk.history ++ answered s desk.history makes.plan.call ∷ []) same ∙ ap (λ (p : Planned). desk.history ++ answered script desk.history p.call ∷ []) is

      count : made steps.1.history lane ≡ suc (made desk.history lane)
      count = made-behind desk lane steps.0 steps.1 makes lane ∙ ap (λ b. made desk.history lane + cond b 1 0) (eq-eqb lane lane refl) ∙ omega arith

      rest : drop (made steps.1.history lane) (planned_of script lane) ≡ now ++ later
      rest = ap (λ n. drop n (planned_of script lane)) count ∙ rest_behind (planned_of script lane) (made desk.history lane) plan (now ++ later) left

-- ---- lane 0

-- behind so many phases lane 0 makes the next one's `do` calls
pub group-makes : (desk begun after : Desk) (done : ℕ) (phase : Phase) → IsScript desk.script → slice_get (phases desk.script) done ≡ Some phase → BehindPhases desk done → begun ≡ record desk { phase = suc done } → LaneRuns begun 0 after
    → SerialDesk after done 0
group-makes desk begun after done phase is_script here behind begins runs =
    let script : Script = desk.script in
    let history : begun.history ≡ desk.history = ap (λ (d : Desk). d.history) begins in
    let same : begun.script ≡ script = ap (λ (d : Desk). d.script) begins in
    let count : made begun.history 0 ≡ length (on_lane 0 (calls_behind script done)) = ap (λ es. made es 0) (history ∙ behind.history) ∙ made_behind script (calls_behind script done) 0 in
    let left = group_left script done (made begun.history 0) phase is_script here count in
    let on = on-lane begun 0 after runs in
    let due_now : Each (IsDue 0 (suc done) 0) (do_calls script done) =
    Each-from_contains (IsDue 0 (suc done) 0) (do_calls script done) (λ plan c.
    let are = dos_are script done is_script plan c in
    let wait : plan.asked ≡ 0 = dos_wait script plan done are.1 are.0 in
    record { own = are.2; begun = let s = are.0 in omega (arith, s); asked = omega (arith, wait); group = λ e. wait }) in
    let late : Each (IsLate 0 (suc done) 0) left.0 = Each-from_contains (IsLate 0 (suc done) 0) left.0 (λ plan c low. let high = left.2 plan c in absurd (omega (arith, high, low))) in
    let made_now : after.history ≡ history_with script begun.history (do_calls script done) =
    steps-make script 0 (suc done) 0 runs.calls begun after (do_calls script done) left.0 same (ap (λ (d : Desk). d.phase) begins) runs.steps left.1 due_now late (omega arith) (λ some. absurd (omega (arith, some))) in
    let all : after.history ≡ history_with script [] (calls_until script done 0) =
    made_now ∙ ap (λ es. history_with script es (do_calls script done)) (history ∙ behind.history)
    ∙ sym (history_append script [] (calls_behind script done) (do_calls script done))
    ∙ ap (history_with script []) (sym (append-nil (calls_behind script done ++ do_calls script done))) in
    record {
      history = subst (λ (s : Script). after.history ≡ history_with s [] (calls_until s done 0)) (sym (on.script ∙ same)) all;
      phase = on.phase ∙ ap (λ (d : Desk). d.phase) begins;
    }

-- lane 0 never waits
pub group-done : (desk after : Desk) → IsScript desk.script → (calls : ℕ) → LaneSteps calls desk 0 after → IsDone after 0
group-done desk after is_script zero (inl waits) = absurd (never waits.1 waits.2)
  where
    never : (seen : ℕ) → Waits desk 0 waits.0 seen after → ⊥
    never seen w =
        let there = within-some desk.phase (slice_get (planned_of desk.script 0) (made desk.history 0)) w.plan w.next in
        let listed = contained (planned_of desk.script 0) (made desk.history 0) w.plan there.0 in
        let none : w.plan.asked ≡ 0 = group_waits desk.script w.plan is_script listed in
        let asked = w.asked_is in
        let behind = w.behind in
        omega (arith, none, asked, behind)
group-done desk after is_script zero (inr done) = subst (λ d. IsDone d 0) (sym done.1) done.0
group-done desk after is_script (suc calls) steps =
    group-done steps.1 after (subst IsScript (sym (on-makes desk 0 steps.0 steps.1 steps.2).script) is_script) calls steps.3

-- ---- lanes 1 to 4

module _ (script : Script) (done rounds : ℕ) (is_script : IsScript script) (place : IsRound script done rounds) where
  abbrev k : ℕ
  k = cycles_begun script done rounds

  abbrev until : List Planned
  until = calls_until script done rounds

  -- one lane, behind those before it in this round
  lane-makes : (lane : ℕ) → 1 ≤ lane → lane ≤ 4 → (desk after : Desk) (before : List Planned) → desk.script ≡ script → desk.phase ≡ suc done → desk.history ≡ history_with script [] (until ++ before) → on_lane lane before ≡ []
      → k ≤ desk.publishing.least → LaneRuns desk lane after → SawUpTo k after
      → after.history ≡ history_with script [] (until ++ (before ++ due script done k lane))
  lane-makes lane some low desk after before same phase history other least runs saw =
      let now : List Planned = due script done k lane in
      let own : on_lane lane (until ++ before) ≡ on_lane lane until = filter-append (λ (plan : Planned). plan.call.lane == lane) until before ∙ ap (λ xs. on_lane lane until ++ xs) other ∙ append-nil (on_lane lane until) in
      let count : made desk.history lane ≡ length (on_lane lane until) = ap (λ es. made es lane) history ∙ made_behind script (until ++ before) lane ∙ ap length own in
      let left = lane_round script done rounds lane (made desk.history lane) place.phase is_script place.there place.within some low count in
      let due_now : Each (IsDue lane (suc done) k) now =
      Each-from_contains (IsDue lane (suc done) k) now (λ plan c.
      let are = due_is script done k lane plan c in
      let stage = are.0 in
      let asked = are.1 in
      record { own = are.2; begun = omega (arith, stage); asked = omega (arith, asked); group = λ e. absurd (omega (arith, e, some)) }) in
      let late : Each (IsLate lane (suc done) k) left.0 = Each-from_contains (IsLate lane (suc done) k) left.0 (λ plan c below. (some, left.2 plan c below)) in
      steps-make script lane (suc done) k runs.calls desk after now left.0 same phase runs.steps left.1 due_now late least (λ one. saw)
      ∙ ap (λ es. history_with script es now) history
      ∙ sym (history_append script [] (until ++ before) now)
      ∙ ap (history_with script []) (append_assoc until before now)

pub round-makes : RoundOfLanes
round-makes desk after done rounds is_script place serial least runs saw = record {
  history = subst (λ (s : Script). after.history ≡ history_with s [] (calls_until s done (suc rounds))) (sym (on-lanes desk after runs).script) all;
  phase = (on-lanes desk after runs).phase ∙ serial.phase;
}
  where
    script : Script
    script = desk.script

    now : ℕ → List Planned
    now lane = due script done (cycles_begun script done rounds) lane

    until : List Planned
    until = calls_until script done rounds

    first : On desk runs.one
    first = on-lane desk 1 runs.one runs.first

    second : On desk runs.two
    second = on-later desk runs.one runs.two first (on-lane runs.one 2 runs.two runs.second)

    third : On desk runs.three
    third = on-later desk runs.two runs.three second (on-lane runs.two 3 runs.three runs.third)

    saw_three : SawUpTo (cycles_begun script done rounds) runs.three
    saw_three = saw-earlier (cycles_begun script done rounds) runs.three after (on-lane runs.three 4 after runs.fourth) saw

    saw_two : SawUpTo (cycles_begun script done rounds) runs.two
    saw_two = saw-earlier (cycles_begun script done rounds) runs.two runs.three (on-lane runs.two 3 runs.three runs.third) saw_three

    saw_one : SawUpTo (cycles_begun script done rounds) runs.one
    saw_one = saw-earlier (cycles_begun script done rounds) runs.one runs.two (on-lane runs.one 2 runs.two runs.second) saw_two

    above : (later : Desk) → On desk later → cycles_begun script done rounds ≤ later.publishing.least
    above later on = let p = on.looks.least in omega (arith, p, least)

    other : (a b : ℕ) → a ≢ b → on_lane a (now b) ≡ []
    other a b apart = due_other script done (cycles_begun script done rounds) a b (λ e. apart (sym e))

    both : (lane : ℕ) (xs ys : List Planned) → on_lane lane xs ≡ [] → on_lane lane ys ≡ [] → on_lane lane (xs ++ ys) ≡ []
    both lane xs ys a b = filter-append (λ (plan : Planned). plan.call.lane == lane) xs ys ∙ ap₂ (λ us vs. us ++ vs) a b

    start : desk.history ≡ history_with script [] (until ++ [])
    start = serial.history ∙ ap (history_with script []) (sym (append-nil until))

    one : runs.one.history ≡ history_with script [] (until ++ now 1)
    one = lane-makes script done rounds is_script place 1 (omega arith) (omega arith) desk runs.one [] refl serial.phase start refl least runs.first saw_one

    two : runs.two.history ≡ history_with script [] (until ++ (now 1 ++ now 2))
    two = lane-makes script done rounds is_script place 2 (omega arith) (omega arith) runs.one runs.two (now 1) first.script (first.phase ∙ serial.phase) one (other 2 1 (λ e. omega (arith, e))) (above runs.one first) runs.second saw_two

    three : runs.three.history ≡ history_with script [] (until ++ ((now 1 ++ now 2) ++ now 3))
    three =
        lane-makes script done rounds is_script place 3 (omega arith) (omega arith) runs.two runs.three (now 1 ++ now 2) second.script (second.phase ∙ serial.phase) two
        (both 3 (now 1) (now 2) (other 3 1 (λ e. omega (arith, e))) (other 3 2 (λ e. omega (arith, e)))) (above runs.two second) runs.third saw_three

    four : after.history ≡ history_with script [] (until ++ (((now 1 ++ now 2) ++ now 3) ++ now 4))
    four =
        lane-makes script done rounds is_script place 4 (omega arith) (omega arith) runs.three after ((now 1 ++ now 2) ++ now 3) third.script (third.phase ∙ serial.phase) three
        (both 4 (now 1 ++ now 2) (now 3) (both 4 (now 1) (now 2) (other 4 1 (λ e. omega (arith, e))) (other 4 2 (λ e. omega (arith, e)))) (other 4 3 (λ e. omega (arith, e)))) (above runs.three third) runs.fourth saw

    in_order : ((now 1 ++ now 2) ++ now 3) ++ now 4 ≡ lanes_at script done (cycles_begun script done rounds)
    in_order =
        append_assoc (now 1 ++ now 2) (now 3) (now 4) ∙ append_assoc (now 1) (now 2) (now 3 ++ now 4)
        ∙ ap (λ xs. now 1 ++ (now 2 ++ (now 3 ++ xs))) (sym (append-nil (now 4)))

    all : after.history ≡ history_with script [] (calls_until script done (suc rounds))
    all = four ∙ ap (λ xs. history_with script [] (until ++ xs)) in_order ∙ ap (history_with script []) (sym (calls-next_round script done rounds))
