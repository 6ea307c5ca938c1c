use Rattle.std.proofs.Common.{arith}
use Rattle.port_registry.specs.Registered.{open_clients}
use Rattle.cycle_blocks.proofs.SendLemmas.{may-next, sent-all, sent-next, sent-none}
use Rattle.cycle_blocks.proofs.sending.send_blocks.Goals as goal

pub loop-recorder-init : goal.loop-recorder-init
loop-recorder-init g c = sent-none c.args.rack.now (open_clients c.args.nodes.now) c.args.cycle c.args.period c.args.rings.now

pub send_block-requires : goal.send_block-requires
send_block-requires g c =
    may-next c.args.rack.now (open_clients c.args.nodes.now) c.args.cycle c.args.period c.args.rings.now c.loop-recorder.rings c.loop-recorder.recorder (omega (arith, c.loop-recorder-test.true, c.len-count.ensures)) c.requires c.loop-recorder.invariant

pub loop-recorder-preserved : goal.loop-recorder-preserved
loop-recorder-preserved g c =
    sent-next c.args.rack.now (open_clients c.args.nodes.now) c.args.cycle c.args.period c.args.rings.now c.loop-recorder.rings c.send_block.new.rings c.loop-recorder.recorder c.loop-recorder.invariant c.send_block.ensures

pub returns : goal.returns
returns g c =
    sent-all c.args.rack.now (open_clients c.args.nodes.now) c.args.cycle c.args.period c.args.rings.now c.loop-recorder.rings c.loop-recorder.recorder (omega (arith, c.loop-recorder-test.false, c.loop-recorder.auto.recorder-end, c.len-count.ensures)) c.loop-recorder.invariant
