use Rattle.std.proofs.Common.{◌≡◌, take}
use Rattle.wave_laws.specs.session_model.specs.Samples.{bytes_of}
use Rattle.samples.proofs.scaling.to_8_plain.Given as goal

abbrev pub invariant-loop-i : goal.invariant-loop-i
invariant-loop-i l = take l.i l.out ≡ bytes_of 8 (take l.i l.samples)
