use Rattle.std.proofs.Common.{ap, subst, sym, ◌∙◌}
use Rattle.call_laws.specs.cycle_plan.specs.Plans.{opening_of}
use Rattle.session_model.specs.Replies.{AreLawful}
use Rattle.control_desk.proofs.desk.publish.Goals as goal

pub fill-requires-clause-lawful : goal.fill-requires-clause-lawful
fill-requires-clause-lawful c = subst (λ b. AreLawful (opening_of b) c.args.changes.now) (sym (ap (λ p. p.base) c.place.ensures.value ∙ c.requires.base)) c.requires.lawful
