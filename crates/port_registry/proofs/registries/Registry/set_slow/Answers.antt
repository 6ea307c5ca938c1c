use Rattle.std.proofs.Common.{◌∙◌, ap}
use Rattle.port_registry.specs.Registered.{state_of}
use Rattle.port_registry.proofs.AfterLemmas.{after-slowed}
use Rattle.port_registry.proofs.registries.Registry.set_slow.Goals as goal

pub returns-in-Ok-clause-after : goal.returns-in-Ok-clause-after
returns-in-Ok-clause-after c = λ number. ap state_of c.slow.ensures.changed ∙ after-slowed c.args.self.now c.args.name.now c.args.cycles number c.in-Ok.ensures.answer
