use Rattle.std.proofs.Common.{◌∙◌, ap}
use Rattle.port_registry.specs.Registered.{state_of}
use Rattle.port_registry.proofs.AfterLemmas.{after-closed}
use Rattle.port_registry.proofs.registries.Registry.close_client.Goals as goal

pub returns-in-Ok-clause-after : goal.returns-in-Ok-clause-after
returns-in-Ok-clause-after c = λ number. ap state_of c.close.ensures.closed ∙ after-closed c.args.self.now c.args.name.now number c.in-Ok.ensures.answer
