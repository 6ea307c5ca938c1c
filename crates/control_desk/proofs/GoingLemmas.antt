-- How a desk begins and goes on.
--     first_begins      the first phase
--     step_goes_on      a step
use Rattle.std.proofs.Common.{◌≡◌, ℕ, zero, suc, ◌+◌, ◌*◌, Bool, true, false, cond, nat_le, List, ◌∷◌, [], length, take, take_at, slice_get, Option, Some, None, refl, sym, ◌∙◌, ap, arith}
use Rattle.std.proofs.Math.Seq.{take-length}
use Rattle.std.proofs.lemmas.Bool.Decides.{nat_tests}
use Rattle.jack_types.specs.declared.replies.Entry.{Entry}
use Rattle.graph_word.specs.Publications.{Publishing}
use Rattle.session_model.specs.Scripts.{Planned, planned_of}
use Rattle.session_model.specs.Serial.{answered}
use Rattle.control_desk.specs.declared.steps.Stepped.TheVariants.{Did, NotYet, Done}
use Rattle.control_desk.specs.Desks.{Desk, LooksBy, made, within}
use Rattle.control_desk.specs.Laws.{FirstBegins, StepGoesOn}
use Rattle.control_desk.proofs.ScriptLemmas.{phases-there}

none-within : (o : Option Planned) → within 0 o ≡ None
none-within None = refl
none-within (Some plan) = go (nat_le (plan.stage + 1) (2 * 0)) refl
  where
    go : (b : Bool) → nat_le (plan.stage + 1) (2 * 0) ≡ b → cond b (Some plan) None ≡ None
    go true e = absurd (clash e)
      where
        clash : nat_le (plan.stage + 1) (2 * 0) ≡ true → ⊥
        clash e = grind (arith, nat_tests)
    go false e = refl

pub first_begins : FirstBegins
first_begins desk e = record {
  next = sym e;
  there = phases-there desk.script;
  used = λ lane low. ap (λ n. within n (slice_get (planned_of desk.script lane) (made desk.history lane))) e ∙ none-within (slice_get (planned_of desk.script lane) (made desk.history lane));
}

table-looked : (lane : ℕ) (before after : Publishing) (seen : ℕ) → LooksBy lane before seen after → after.table ≡ before.table
table-looked zero before after seen looks = ap (λ (p : Publishing). p.table) looks
table-looked (suc lane) before after seen looks = ap (λ (p : Publishing). p.table) looks.after_is

-- a history that stays goes on
same-front : (history after : List Entry) → after ≡ history → history ≡ take (length history) after
same-front history after e = sym (ap (take (length history)) e ∙ take-length history)

pub step_goes_on : StepGoesOn
step_goes_on desk after lane (Did reply) step = record {
  script = ap (λ (d : Desk). d.script) step.same;
  phase = ap (λ (d : Desk). d.phase) step.same;
  table = ap (λ (p : Publishing). p.table) step.publishes ∙ table-looked lane desk.publishing step.looked step.seen step.looks;
  more = sym (ap (take (length desk.history)) step.history ∙ take_at desk.history (answered desk.script desk.history step.plan.call ∷ []) (length desk.history) refl);
}
step_goes_on desk after lane (NotYet asked seen) step = record {
  script = ap (λ (d : Desk). d.script) step.same;
  phase = ap (λ (d : Desk). d.phase) step.same;
  table = table-looked lane desk.publishing after.publishing seen step.looks;
  more = same-front desk.history after.history (ap (λ (d : Desk). d.history) step.same);
}
step_goes_on desk after lane Done step = record {
  script = ap (λ (d : Desk). d.script) step.1;
  phase = ap (λ (d : Desk). d.phase) step.1;
  table = ap (λ (d : Desk). d.publishing.table) step.1;
  more = same-front desk.history after.history (ap (λ (d : Desk). d.history) step.1);
}
