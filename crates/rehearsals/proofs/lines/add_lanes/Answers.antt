use Rattle.std.proofs.Common.{◌+◌, refl, arith}
use Rattle.rehearsal_model.specs.Rehearsals.{lane_lines}
use Rattle.rehearsals.proofs.DrawLemmas.{adds_all, adds_more}
use Rattle.rehearsals.proofs.lines.add_lanes.Goals as goal

pub loop-i-preserved : goal.loop-i-preserved
loop-i-preserved c =
    adds_more lane_lines c.loop-i.i 0 c.loop-i.i (c.loop-i.i + 1) c.args.lines.now.items c.loop-i.lines.items c.add_lane_calls.new.lines.items c.args.rng.now c.loop-i.rng c.add_lane_calls.new.rng
    (omega arith) refl c.loop-i.invariant c.in_ok-add_lane_calls.ensures

pub returns : goal.returns
returns c = adds_all lane_lines c.loop-i.i c.args.count 0 c.args.lines.now.items c.loop-i.lines.items c.args.rng.now c.loop-i.rng c.loop-i-test.false c.loop-i.auto.i-end c.loop-i.invariant
