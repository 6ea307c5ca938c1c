use Rattle.std.proofs.Common.{◌∙◌, ap, None, refl, subst, sym, true}
use Rattle.lane_calls.specs.Plans.{plan_of}
use Rattle.session_model.specs.Histories.{LegalSoFar}
use Rattle.call_checks.specs.Checks.{Checks, told}
use Rattle.call_checks.proofs.NextLemmas.{answers-entered, answers-none}
use Rattle.call_checks.proofs.checks.CallChecks.call.Goals as goal

pub returns-in-Some : goal.returns-in-Some
returns-in-Some c =
    answers-entered c.args.self.now (told c.args.lane c.args.index c.args.reply.now) (plan_of c.in-Some.planned) c.enter.result c.enter.new.self
    (sym (ap (λ (p : Checks). p.wrong) c.self.view_is) ∙ c.if-self.false) (subst (λ (p : Checks). LegalSoFar p.script p.history) c.self.view_is c.self.invariant.0.legal) c.in-Some.ensures c.enter.ensures

pub returns-in-None : goal.returns-in-None
returns-in-None c = (
  (answers-none c.args.self.now (told c.args.lane c.args.index c.args.reply.now) None refl c.in-None.ensures).0,
  ap (λ (p : Checks). record p { wrong = true }) c.self.view_is,
)
