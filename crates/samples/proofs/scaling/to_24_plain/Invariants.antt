use Rattle.std.proofs.Common.{◌≡◌, ◌*◌, take}
use Rattle.wave_laws.specs.session_model.specs.Samples.{bytes_of}
use Rattle.samples.proofs.scaling.to_24_plain.Given as goal

abbrev pub invariant-loop-i : goal.invariant-loop-i
invariant-loop-i l = take (3 * l.i) l.out ≡ bytes_of 24 (take l.i l.samples)
