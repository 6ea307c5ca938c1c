use Rattle.std.proofs.Common.{pos, w32}
use Rattle.std.specs.Int.RustNames.{FitsSigned}
use Rattle.std.proofs.lemmas.Simd.{Each1-from_get_or}
use Rattle.samples.proofs.NarrowLemmas.{four_to_24}
use Rattle.samples.proofs.kernels.four_to_24.Goals as goal

pub returns : goal.returns
returns c =
    four_to_24 c.args.samples.now c.args.out.now c.args.place c.requires.there c.requires.room
    (Each1-from_get_or (FitsSigned w32) c.args.samples.now (pos 0) c.requires.fits) c.requires.front _ _ _ _
