use Rattle.check_command.proofs.ScriptLemmas.{refusal-told, script-told}
use Rattle.check_command.proofs.opening.read_decided.Goals as goal

pub returns-in-Ok-clause-script : goal.returns-in-Ok-clause-script
returns-in-Ok-clause-script g c =
    script-told c.decided_in.result (g.H.Host.files c.args.host.now) c.args.name.now c.in-Ok.bytes.items c.in-Ok.ensures.bytes (rw (← c.deref.ensures.value) c.decided_in.ensures.script)

pub returns-in-Ok-clause-fault : goal.returns-in-Ok-clause-fault
returns-in-Ok-clause-fault g c =
    refusal-told c.decided_in.result (g.H.Host.files c.args.host.now) c.args.name.now c.in-Ok.bytes.items c.in-Ok.ensures.bytes (rw (← c.deref.ensures.value) c.decided_in.ensures.fault)
