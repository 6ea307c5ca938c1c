use Rattle.std.proofs.Common.{◌+◌, [], refl, arith}
use Rattle.rehearsal_laws.proofs.CaptureLemmas.{many}
use Rattle.rehearsal_model.specs.Rehearsals.{capture_samples, sample_drawn}
use Rattle.rehearsals.proofs.DrawLemmas.{adds_more, adds_shut}
use Rattle.rehearsals.proofs.sounds.draw_samples.Goals as goal

pub loop-i-preserved : goal.loop-i-preserved
loop-i-preserved c =
    adds_more sample_drawn c.loop-i._i 0 c.loop-i._i (c.loop-i._i + 1) [] c.loop-i.samples.items c.add_sample.new.samples.items c.args.rng.now c.loop-i.rng c.add_sample.new.rng
    (omega arith) refl c.loop-i.invariant c.in_ok-add_sample.ensures

pub returns : goal.returns
returns c = adds_shut sample_drawn c.loop-i._i 1280000 capture_samples c.loop-i.samples.items c.args.rng.now c.loop-i.rng c.loop-i-test.false c.loop-i.auto._i-end many c.loop-i.invariant
