-- What steps of a lane keep.
--     On before after      the same desk, later in its phase
--     lane-on, lanes-on      behind a lane's run, and behind a round
use Rattle.std.proofs.Common.{◌≡◌, inl, inr, ℕ, zero, suc, ◌+◌, ◌-◌, ◌*◌, ◌<◌, ◌≤◌, cond, ◌==◌, eq-eqb, ne_eqb, List, [], ◌∷◌, ◌++◌, length, take, slice_get, All, Some, refl, sym, ◌∙◌, ap, subst, arith, append_assoc, append-nil, take_at}
use Rattle.std.proofs.lemmas.Option.{slice_get_within}
use Rattle.jack_types.specs.declared.replies.Entry.{Entry}
use Rattle.graph_word.specs.Publications.{Publishing}
use Rattle.session_model.specs.Histories.{accepted}
use Rattle.session_model.specs.Publication.{SeenPair}
use Rattle.session_model.specs.Scripts.{planned_of}
use Rattle.session_model.specs.Serial.{answered}
use Rattle.control_desk.specs.Desks.{Desk, IsDone, LooksBy, Makes, MayStep, Waits, made, within}
use Rattle.control_desk.specs.call_laws.proofs.LaneLemmas.{of_lane}
use Rattle.control_desk.proofs.LaneLemmas.{within-some}
use Rattle.serial_lanes.specs.Lanes.{LaneRuns, LaneSteps, LanesRun, RanOn, SawUpTo, Stops}
use Rattle.control_desk.specs.call_laws.proofs.ItemLemmas.{contained}
use Rattle.serial_lanes.proofs.ItemLemmas.{all-front}
use Rattle.serial_lanes.proofs.MadeLemmas.{made_more}

-- the same publication, in which the publisher looked further
pub record LooksOn (before after : Publishing) : Type 0 where
  pub table : after.table ≡ before.table
  pub pairs : (looks : List SeenPair) × (after.pairs ≡ before.pairs ++ looks)
  pub least : before.least ≤ after.least

looks_on : (lane : ℕ) (before : Publishing) (seen : ℕ) (after : Publishing) → LooksBy lane before seen after → LooksOn before after
looks_on zero before seen after same = record {
  table = ap (λ (p : Publishing). p.table) same;
  pairs = ([], ap (λ (p : Publishing). p.pairs) same ∙ sym (append-nil before.pairs));
  least = let e : after.least ≡ before.least = ap (λ (p : Publishing). p.least) same in omega (arith, e);
}
looks_on (suc lane) before seen after looks = record {
  table = ap (λ (p : Publishing). p.table) looks.after_is;
  pairs = (record { cycle = seen; number = length before.all } ∷ [], ap (λ (p : Publishing). p.pairs) looks.after_is);
  least = let e : after.least ≡ seen = ap (λ (p : Publishing). p.least) looks.after_is in omega (arith, e, looks.least);
}

-- the same desk, later in its phase
pub record On (desk after : Desk) : Type 0 where
  pub script : after.script ≡ desk.script
  pub phase : after.phase ≡ desk.phase
  pub history : (more : List Entry) × (after.history ≡ desk.history ++ more)
  pub looks : LooksOn desk.publishing after.publishing

pub on-same : (desk after : Desk) → after ≡ desk → On desk after
on-same desk after same = record {
  script = ap (λ (d : Desk). d.script) same;
  phase = ap (λ (d : Desk). d.phase) same;
  history = ([], ap (λ (d : Desk). d.history) same ∙ sym (append-nil desk.history));
  looks = looks_on 0 desk.publishing 0 after.publishing (ap (λ (d : Desk). d.publishing) same);
}

pub on-later : (one two three : Desk) → On one two → On two three → On one three
on-later one two three a b = record {
  script = b.script ∙ a.script;
  phase = b.phase ∙ a.phase;
  history = (a.history.0 ++ b.history.0, b.history.1 ∙ ap (λ es. es ++ b.history.0) a.history.1 ∙ append_assoc one.history a.history.0 b.history.0);
  looks = record {
    table = b.looks.table ∙ a.looks.table;
    pairs = (a.looks.pairs.0 ++ b.looks.pairs.0, b.looks.pairs.1 ∙ ap (λ ps. ps ++ b.looks.pairs.0) a.looks.pairs.1 ∙ append_assoc one.publishing.pairs a.looks.pairs.0 b.looks.pairs.0);
    least = let p = a.looks.least in let q = b.looks.least in omega (arith, p, q);
  };
}

on-waits : (desk : Desk) (lane asked seen : ℕ) (after : Desk) → Waits desk lane asked seen after → On desk after
on-waits desk lane asked seen after waits = record {
  script = ap (λ (d : Desk). d.script) waits.same;
  phase = ap (λ (d : Desk). d.phase) waits.same;
  history = ([], ap (λ (d : Desk). d.history) waits.same ∙ sym (append-nil desk.history));
  looks = looks_on lane desk.publishing seen after.publishing waits.looks;
}

pub on-stops : (desk : Desk) (lane : ℕ) (after : Desk) → Stops desk lane after → On desk after
on-stops desk lane after (inl waits) = on-waits desk lane waits.0 waits.1 after waits.2
on-stops desk lane after (inr done) = on-same desk after done.1

module _ (desk : Desk) (lane : ℕ) (reply : _) (after : Desk) (makes : Makes desk lane reply after) where
  pub on-makes : On desk after
  on-makes =
      let looked : LooksOn desk.publishing makes.looked = looks_on lane desk.publishing makes.seen makes.looked makes.looks in
      record {
        script = ap (λ (d : Desk). d.script) makes.same;
        phase = ap (λ (d : Desk). d.phase) makes.same;
        history = (answered desk.script desk.history makes.plan.call ∷ [], makes.history);
        looks = record {
          table = ap (λ (p : Publishing). p.table) makes.publishes ∙ looked.table;
          pairs = (looked.pairs.0, ap (λ (p : Publishing). p.pairs) makes.publishes ∙ looked.pairs.1);
          least = let e : after.publishing.least ≡ makes.looked.least = ap (λ (p : Publishing). p.least) makes.publishes in let p = looked.least in omega (arith, e, p);
        };
      }

  -- the call is the lane's next one, of a phase begun
  pub plan-there : (slice_get (planned_of desk.script lane) (made desk.history lane) ≡ Some makes.plan) × (makes.plan.stage < 2 * desk.phase)
  plan-there = within-some desk.phase (slice_get (planned_of desk.script lane) (made desk.history lane)) makes.plan makes.next

  pub plan-lane : makes.plan.call.lane ≡ lane
  plan-lane = of_lane desk.script lane makes.plan (contained (planned_of desk.script lane) (made desk.history lane) makes.plan plan-there.0)

  -- how many calls a lane has made behind it
  pub made-behind : (other : ℕ) → made after.history other ≡ made desk.history other + cond (lane == other) 1 0
  made-behind other =
      ap (λ es. made es other) makes.history ∙ made_more desk.history (answered desk.script desk.history makes.plan.call) other
      ∙ ap (λ l. made desk.history other + cond (l == other) 1 0) plan-lane

  pub still-done : 1 ≤ lane → IsDone desk 0 → IsDone after 0
  still-done some done =
      let none : cond (lane == 0) 1 0 ≡ 0 = ap (λ b. cond b 1 0) (ne_eqb lane 0 (λ e. omega (arith, e, some))) in
      let same : made after.history 0 ≡ made desk.history 0 = made-behind 0 ∙ ap (λ n. made desk.history 0 + n) none ∙ omega arith in
      ap (λ (d : Desk). within d.phase (slice_get (planned_of d.script 0) (made after.history 0))) makes.same
      ∙ ap (λ n. within desk.phase (slice_get (planned_of desk.script 0) n)) same ∙ done

-- ---- what may be stepped, may be stepped again

pub may-makes : (desk : Desk) (lane : ℕ) (reply : _) (after : Desk) → Makes desk lane reply after → MayStep desk lane → MayStep after lane
may-makes desk lane reply after makes may = record {
  lanes = may.lanes;
  begun = subst (λ n. 1 ≤ n) (sym (ap (λ (d : Desk). d.phase) makes.same)) may.begun;
  group = λ some. still-done desk lane reply after makes some (may.group some);
}

pub may-stops : (desk : Desk) (lane : ℕ) (after : Desk) → Stops desk lane after → MayStep desk lane → MayStep after lane
may-stops desk lane after (inl waits) may = subst (λ d. MayStep d lane) (sym waits.2.same) (record { lanes = may.lanes; begun = may.begun; group = may.group })
may-stops desk lane after (inr done) may = subst (λ d. MayStep d lane) (sym done.1) may

-- ---- runs

pub on-steps : (calls : ℕ) (desk : Desk) (lane : ℕ) (after : Desk) → LaneSteps calls desk lane after → On desk after
on-steps zero desk lane after stops = on-stops desk lane after stops
on-steps (suc calls) desk lane after steps = on-later desk steps.1 after (on-makes desk lane steps.0 steps.1 steps.2) (on-steps calls steps.1 lane after steps.3)

pub on-lane : (desk : Desk) (lane : ℕ) (after : Desk) → LaneRuns desk lane after → On desk after
on-lane desk lane after runs = on-steps runs.calls desk lane after runs.steps

pub on-lanes : (desk after : Desk) → LanesRun desk after → On desk after
on-lanes desk after runs =
    on-later desk runs.three after
    (on-later desk runs.two runs.three (on-later desk runs.one runs.two (on-lane desk 1 runs.one runs.first) (on-lane runs.one 2 runs.two runs.second)) (on-lane runs.two 3 runs.three runs.third))
    (on-lane runs.three 4 after runs.fourth)

-- what is published stays what the history accepts
pub published-steps : (calls : ℕ) (desk : Desk) (lane : ℕ) (after : Desk) → LaneSteps calls desk lane after → desk.publishing.all ≡ accepted desk.history → after.publishing.all ≡ accepted after.history
published-steps zero desk lane after stops old = ap (λ (p : Publishing). p.all) (kept stops).0 ∙ old ∙ ap accepted (sym (kept stops).1)
  where
    kept : Stops desk lane after → (after.publishing ≡ record desk.publishing { pairs = after.publishing.pairs; least = after.publishing.least }) × (after.history ≡ desk.history)
    kept (inl waits) = (looked lane waits.2.looks, ap (λ (d : Desk). d.history) waits.2.same)
      where
        looked : (l : ℕ) → LooksBy l desk.publishing waits.1 after.publishing → after.publishing ≡ record desk.publishing { pairs = after.publishing.pairs; least = after.publishing.least }
        looked zero same = subst (λ p. p ≡ record desk.publishing { pairs = p.pairs; least = p.least }) (sym same) refl
        looked (suc l) looks = looks.after_is ∙ ap (λ (p : Publishing). record desk.publishing { pairs = p.pairs; least = p.least }) (sym looks.after_is)
    kept (inr done) = (subst (λ (d : Desk). d.publishing ≡ record desk.publishing { pairs = d.publishing.pairs; least = d.publishing.least }) (sym done.1) refl, ap (λ (d : Desk). d.history) done.1)
published-steps (suc calls) desk lane after steps old = published-steps calls steps.1 lane after steps.3 (ap (λ (p : Publishing). p.all) steps.2.publishes)

pub published-lanes : (desk after : Desk) → LanesRun desk after → desk.publishing.all ≡ accepted desk.history → after.publishing.all ≡ accepted after.history
published-lanes desk after runs old =
    published-steps runs.fourth.calls runs.three 4 after runs.fourth.steps
    (published-steps runs.third.calls runs.two 3 runs.three runs.third.steps
    (published-steps runs.second.calls runs.one 2 runs.two runs.second.steps (published-steps runs.first.calls desk 1 runs.one runs.first.steps old)))

pub ran-on : (desk after : Desk) → desk.publishing.all ≡ accepted desk.history → LanesRun desk after → RanOn desk after
ran-on desk after old runs = record {
  goes_on = record {
    script = on.script;
    phase = on.phase;
    table = on.looks.table;
    more = sym (ap (take (length desk.history)) on.history.1 ∙ take_at desk.history on.history.0 (length desk.history) refl);
  };
  published = published-lanes desk after runs old;
  pairs = on.looks.pairs;
  least = on.looks.least;
}
  where
    on : On desk after
    on = on-lanes desk after runs

-- behind a run of lane 0 nothing is looked at
pub group-published : (calls : ℕ) (desk after : Desk) → LaneSteps calls desk 0 after → desk.publishing.all ≡ accepted desk.history → after.publishing ≡ record desk.publishing { all = accepted after.history; held = after.publishing.held }
group-published zero desk after stops old = go (kept stops)
  where
    kept : Stops desk 0 after → (after.publishing ≡ desk.publishing) × (after.history ≡ desk.history)
    kept (inl waits) = (waits.2.looks, ap (λ (d : Desk). d.history) waits.2.same)
    kept (inr done) = (ap (λ (d : Desk). d.publishing) done.1, ap (λ (d : Desk). d.history) done.1)

    go : (after.publishing ≡ desk.publishing) × (after.history ≡ desk.history) → after.publishing ≡ record desk.publishing { all = accepted after.history; held = after.publishing.held }
    go w =
        subst (λ (p : Publishing). p ≡ record desk.publishing { all = p.all; held = p.held }) (sym w.0) refl
        ∙ ap (λ cs. record desk.publishing { all = cs; held = after.publishing.held }) (ap (λ (p : Publishing). p.all) w.0 ∙ old ∙ ap accepted (sym w.1))
group-published (suc calls) desk after steps old =
    group-published calls steps.1 after steps.3 (ap (λ (p : Publishing). p.all) steps.2.publishes)
    ∙ ap (λ (p : Publishing). record p { all = accepted after.history; held = after.publishing.held })
    (steps.2.publishes ∙ ap (λ (p : Publishing). record p { all = accepted steps.1.history; held = steps.1.publishing.held }) steps.2.looks)

-- a run changes history and publication alone
pub same-steps : (calls : ℕ) (desk : Desk) (lane : ℕ) (after : Desk) → LaneSteps calls desk lane after → after ≡ record desk { history = after.history; publishing = after.publishing }
same-steps zero desk lane after (inl waits) = waits.2.same ∙ ap (λ h. record desk { history = h; publishing = after.publishing }) (sym (ap (λ (d : Desk). d.history) waits.2.same))
same-steps zero desk lane after (inr done) = subst (λ (d : Desk). d ≡ record desk { history = d.history; publishing = d.publishing }) (sym done.1) refl
same-steps (suc calls) desk lane after steps =
    same-steps calls steps.1 lane after steps.3 ∙ ap (λ (d : Desk). record d { history = after.history; publishing = after.publishing }) steps.2.same

-- a call made leaves one fewer of the lane's
pub fewer-left : (desk : Desk) (lane : ℕ) (reply : _) (after : Desk) → Makes desk lane reply after → length (planned_of after.script lane) - made after.history lane < length (planned_of desk.script lane) - made desk.history lane
fewer-left desk lane reply after makes =
    let there : made desk.history lane < length (planned_of desk.script lane) = slice_get_within (planned_of desk.script lane) (made desk.history lane) makes.plan (plan-there desk lane reply after makes).0 in
    let count : made after.history lane ≡ made desk.history lane + 1 = made-behind desk lane reply after makes lane ∙ ap (λ b. made desk.history lane + cond b 1 0) (eq-eqb lane lane refl) in
    let same : length (planned_of after.script lane) ≡ length (planned_of desk.script lane) = ap (λ (d : Desk). length (planned_of d.script lane)) makes.same in
    omega (arith, there, count, same)

-- one call more before a run
pub makes-then-runs : (desk : Desk) (lane : ℕ) (reply : _) (between after : Desk) → Makes desk lane reply between → LaneRuns between lane after → LaneRuns desk lane after
makes-then-runs desk lane reply between after makes runs = record { calls = suc runs.calls; steps = (reply, between, makes, runs.steps) }

-- a desk saw no more before it went on
pub saw-earlier : (cycle : ℕ) (desk after : Desk) → On desk after → SawUpTo cycle after → SawUpTo cycle desk
saw-earlier cycle desk after on saw =
    let IsUpTo : SeenPair → Type 0 = λ pair. pair.cycle ≤ cycle in
    all-front IsUpTo desk.publishing.pairs on.looks.pairs.0 (subst (All IsUpTo) on.looks.pairs.1 saw)
