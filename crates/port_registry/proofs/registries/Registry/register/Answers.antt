use Rattle.session_laws.specs.jack_types.specs.declared.commands.Command.TheVariants.{Register}
use Rattle.port_registry.proofs.AfterLemmas.{after-refused}
use Rattle.port_registry.proofs.registries.Registry.register.Goals as goal

pub put-requires-clause-granted : goal.put-requires-clause-granted
put-requires-clause-granted c = c.in-Ok.ensures.answer c.args.kind

pub returns-in-Err-clause-answer : goal.returns-in-Err-clause-answer
returns-in-Err-clause-answer c = c.in-Err.ensures.answer c.args.kind

pub returns-in-Err-clause-after : goal.returns-in-Err-clause-after
returns-in-Err-clause-after c = λ told. after-refused c.args.self.now c.args.birth (Register c.args.name.now c.args.way c.args.kind) c.in-Err.refusal (c.in-Err.ensures.answer c.args.kind)

pub returns-in-Ok-put-clause-answer : goal.returns-in-Ok-put-clause-answer
returns-in-Ok-put-clause-answer c = c.in-Ok.ensures.answer c.args.kind

pub returns-in-Err-put-clause-answer : goal.returns-in-Err-put-clause-answer
returns-in-Err-put-clause-answer c = c.in-Ok.ensures.answer c.args.kind
