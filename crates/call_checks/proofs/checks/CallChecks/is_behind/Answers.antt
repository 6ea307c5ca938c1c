use Rattle.std.proofs.Common.{◌≡◌, ◌∙◌, ap, arith, sym}
use Rattle.std.proofs.lemmas.Bool.Decides.{nat_tests}
use Rattle.session_model.specs.Scripts.{Planned}
use Rattle.lane_calls.specs.Plans.{plan_of}
use Rattle.call_laws.proofs.ItemLemmas.{some-same}
use Rattle.call_checks.proofs.checks.CallChecks.is_behind.Goals as goal

pub returns-in-Some : goal.returns-in-Some
returns-in-Some c = (
  λ low. record { plan = plan_of c.in-Some.planned; next = sym c.in-Some.ensures.next; low = grind (arith, nat_tests) },
  λ early.
      let same : plan_of c.in-Some.planned ≡ early.plan = some-same (plan_of c.in-Some.planned) early.plan (c.in-Some.ensures.next ∙ early.next) in
      let stage : c.in-Some.planned.stage ≡ early.plan.stage = ap (λ (p : Planned). p.stage) same in
      let low = early.low in
      grind (arith, nat_tests),
)
