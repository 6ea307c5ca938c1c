use Rattle.std.proofs.Common.{◌≡◌, ◌*◌, take, map}
use Rattle.wave_laws.specs.session_model.specs.Samples.{clamp}
use Rattle.samples.proofs.sums.settle.Given as goal

abbrev pub invariant-loop-block : goal.invariant-loop-block
invariant-loop-block l = take (4 * l.block) l.out ≡ map clamp (take (4 * l.block) l.sum)
