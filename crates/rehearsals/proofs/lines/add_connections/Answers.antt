use Rattle.std.proofs.Common.{◌+◌, refl, arith}
use Rattle.rehearsal_model.specs.Rehearsals.{any_line}
use Rattle.rehearsals.proofs.DrawLemmas.{adds_all, adds_more}
use Rattle.rehearsals.proofs.lines.add_connections.Goals as goal

pub loop-i-preserved : goal.loop-i-preserved
loop-i-preserved c =
    adds_more any_line c.loop-i._i 0 c.loop-i._i (c.loop-i._i + 1) c.args.lines.now.items c.loop-i.lines.items c.add_connection.new.lines.items c.args.rng.now c.loop-i.rng c.add_connection.new.rng
    (omega arith) refl c.loop-i.invariant c.in_ok-add_connection.ensures

pub returns : goal.returns
returns c = adds_all any_line c.loop-i._i c.args.count 0 c.args.lines.now.items c.loop-i.lines.items c.args.rng.now c.loop-i.rng c.loop-i-test.false c.loop-i.auto._i-end c.loop-i.invariant
