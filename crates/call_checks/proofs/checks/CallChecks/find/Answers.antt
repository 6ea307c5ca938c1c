use Rattle.std.proofs.Common.{◌∙◌, arith, sym, true≢false}
use Rattle.lane_calls.specs.Plans.{plan_of}
use Rattle.call_checks.proofs.NextLemmas.{finds-late, finds-next}
use Rattle.call_checks.proofs.checks.CallChecks.find.Goals as goal

pub returns-then-not-is_due : goal.returns-then-not-is_due
returns-then-not-is_due c =
    finds-late c.args.self.now.script c.lane_next.ensures.script c.args.self.now.history c.lane_next.ensures.legal c.args.lane c.args.index (omega (arith, c.if-lane-gt4.false)) (plan_of c.in_ok-planned.planned) (sym c.in_ok-planned.ensures.next)
    (λ due. true≢false (sym (c.is_due.ensures.1 due) ∙ c.if-not-is_due.true))

pub returns : goal.returns
returns c =
    finds-next c.args.self.now.script c.lane_next.ensures.script c.args.self.now.history c.lane_next.ensures.legal c.args.lane c.args.index (omega (arith, c.if-lane-gt4.false)) (plan_of c.in_ok-planned.planned) (sym c.in_ok-planned.ensures.next)
    (sym c.from.ensures ∙ c.if-from-index.false) (c.is_due.ensures.0 c.if-not-is_due.false)
