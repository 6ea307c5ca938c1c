use Rattle.std.proofs.Common.{◌≡◌, ◌*◌, take}
use Rattle.wave_laws.specs.session_model.specs.Samples.{bytes_of}
use Rattle.samples.proofs.scaling.to_8.Given as goal

abbrev pub invariant-loop-block : goal.invariant-loop-block
invariant-loop-block l = take (16 * l.block) l.out ≡ bytes_of 8 (take (16 * l.block) l.samples)
