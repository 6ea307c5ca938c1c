use Rattle.std.proofs.Common.{◌≡◌, take, map}
use Rattle.wave_laws.specs.session_model.specs.Samples.{clamp}
use Rattle.samples.proofs.sums.settle_plain.Given as goal

abbrev pub invariant-loop-i : goal.invariant-loop-i
invariant-loop-i l = take l.i l.out ≡ map clamp (take l.i l.sum)
