use Rattle.play_inputs.proofs.ScriptLemmas.{fault-told, own-unread, script-told, unread-told}
use Rattle.play_inputs.proofs.scripts.read_script.Goals as goal

pub returns-in-Ok-clause-script : goal.returns-in-Ok-clause-script
returns-in-Ok-clause-script g c =
    script-told c.script_in.result (g.H.Host.files c.args.host.now) c.args.name.now c.in-Ok.bytes.items c.in-Ok.ensures.bytes (rw (← c.deref.ensures.value) c.script_in.ensures.script)

pub returns-in-Ok-clause-fault : goal.returns-in-Ok-clause-fault
returns-in-Ok-clause-fault g c =
    fault-told c.script_in.result (g.H.Host.files c.args.host.now) c.args.name.now c.in-Ok.bytes.items c.in-Ok.ensures.bytes (rw (← c.deref.ensures.value) c.script_in.ensures.fault)

pub returns-in-Err-clause-fault : goal.returns-in-Err-clause-fault
returns-in-Err-clause-fault g c = unread-told (g.H.Host.files c.args.host.now) c.args.name.now c.in-Err.status c.in-Err.ensures.fault

pub returns-in-Err-clause-own : goal.returns-in-Err-clause-own
returns-in-Err-clause-own g c = own-unread c.in-Err.status c.in-Err.ensures.fault
