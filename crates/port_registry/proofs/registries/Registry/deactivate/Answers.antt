use Rattle.std.proofs.Common.{◌∙◌, ap}
use Rattle.port_registry.specs.Registered.{state_of}
use Rattle.port_registry.proofs.AfterLemmas.{after-deactivated}
use Rattle.port_registry.proofs.registries.Registry.deactivate.Goals as goal

pub returns-in-Ok-clause-after : goal.returns-in-Ok-clause-after
returns-in-Ok-clause-after c = λ number. ap state_of c.set_active.ensures.changed ∙ after-deactivated c.args.self.now c.args.name.now number c.in-Ok.ensures.answer
