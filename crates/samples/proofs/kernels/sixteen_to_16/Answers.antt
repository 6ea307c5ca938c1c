use Rattle.std.proofs.Common.{◌^◌, ℤ, ap, of_z, pos, w32}
use lib.Signed.{shr_z}
use Rattle.std.proofs.lemmas.Int.{to_z-of_z}
use Rattle.std.specs.Int.RustNames.{FitsSigned}
use Rattle.std.proofs.lemmas.Simd.{Each1-from_get_or}
use Rattle.samples.proofs.NarrowLemmas.{sixteen_to_16}
use Rattle.samples.proofs.kernels.sixteen_to_16.Goals as goal

pub returns : goal.returns
returns c =
    sixteen_to_16 _ c.args.samples.now c.args.out.now c.args.place (λ z fits. ap (λ (x : ℤ). of_z w32 (shr_z x (2 ^ 16))) (to_z-of_z w32 z fits)) c.requires.there c.requires.room
    (Each1-from_get_or (FitsSigned w32) c.args.samples.now (pos 0) c.requires.fits) c.requires.front
