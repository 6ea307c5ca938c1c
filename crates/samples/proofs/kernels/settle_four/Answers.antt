use Rattle.std.proofs.Common.{pos, w64}
use Rattle.std.specs.Int.RustNames.{FitsSigned}
use Rattle.std.proofs.lemmas.Simd.{Each1-from_get_or}
use Rattle.samples.proofs.ClampLemmas.{settle_four}
use Rattle.samples.proofs.kernels.settle_four.Goals as goal

pub returns : goal.returns
returns c =
    settle_four c.args.sum.now c.args.out.now c.args.place c.requires.there c.requires.room
    (Each1-from_get_or (FitsSigned w64) c.args.sum.now (pos 0) c.requires.fits) c.requires.front
