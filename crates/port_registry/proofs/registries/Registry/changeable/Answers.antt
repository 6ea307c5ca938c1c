use Rattle.std.proofs.Common.{sym, ◌∙◌}
use Rattle.port_registry.proofs.RefusalLemmas.{change-missing, change-system, change-granted}
use Rattle.port_registry.proofs.registries.Registry.changeable.Goals as goal

pub returns-in_default-clause-answer : goal.returns-in_default-clause-answer
returns-in_default-clause-answer c = change-missing _ c.place.ensures.registered c.args.name.now (sym c.place.ensures.value ∙ c.in_default.is)

pub returns-then-is_system-clause-answer : goal.returns-then-is_system-clause-answer
returns-then-is_system-clause-answer c = change-system _ c.place.ensures.registered c.args.name.now _ (sym c.place.ensures.value ∙ c.in-Some.is) (sym c.is_system.ensures ∙ c.if-is_system.true)

pub returns-clause-answer : goal.returns-clause-answer
returns-clause-answer c = change-granted _ c.place.ensures.registered c.args.name.now _ (sym c.place.ensures.value ∙ c.in-Some.is) (sym c.is_system.ensures ∙ c.if-is_system.false)
