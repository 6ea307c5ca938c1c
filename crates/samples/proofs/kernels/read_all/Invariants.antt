use Rattle.std.proofs.Common.{ℕ, ◌<◌, w32}
use Rattle.std.specs.Int.RustNames.{FitsSigned}
use Rattle.wave_laws.specs.session_model.specs.Samples.{sample}
use Rattle.samples.proofs.kernels.read_all.Given as goal

abbrev pub invariant-loop-i : goal.invariant-loop-i
invariant-loop-i l = (k : ℕ) → k < l.i → FitsSigned w32 (sample l.samples k)
