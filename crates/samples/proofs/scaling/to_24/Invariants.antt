use Rattle.std.proofs.Common.{◌≡◌, ◌*◌, take}
use Rattle.wave_laws.specs.session_model.specs.Samples.{bytes_of}
use Rattle.samples.proofs.scaling.to_24.Given as goal

abbrev pub invariant-loop-block : goal.invariant-loop-block
invariant-loop-block l = take (3 * (4 * l.block)) l.out ≡ bytes_of 24 (take (4 * l.block) l.samples)
