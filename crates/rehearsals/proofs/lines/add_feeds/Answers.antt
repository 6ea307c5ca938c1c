use Rattle.std.proofs.Common.{◌+◌, refl, arith}
use Rattle.rehearsal_model.specs.Rehearsals.{chain_line}
use Rattle.rehearsals.proofs.DrawLemmas.{adds_all, adds_more}
use Rattle.rehearsals.proofs.lines.add_feeds.Goals as goal

pub loop-i-preserved : goal.loop-i-preserved
loop-i-preserved c =
    adds_more chain_line c.loop-i.i 1 (c.loop-i.i + 1) (c.loop-i.i + 1) c.args.lines.now.items c.loop-i.lines.items c.add_feed.new.lines.items c.args.rng.now c.loop-i.rng c.add_feed.new.rng
    (omega arith) refl c.loop-i.invariant c.in_ok-add_feed.ensures

pub returns : goal.returns
returns c = adds_all chain_line c.loop-i.i c.args.count 1 c.args.lines.now.items c.loop-i.lines.items c.args.rng.now c.loop-i.rng c.loop-i-test.false c.loop-i.auto.i-end c.loop-i.invariant
