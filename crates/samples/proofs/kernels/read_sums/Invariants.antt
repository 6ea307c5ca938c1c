use Rattle.std.proofs.Common.{ℕ, ◌<◌, w64}
use Rattle.std.specs.Int.RustNames.{FitsSigned}
use Rattle.wave_laws.specs.session_model.specs.Samples.{sample}
use Rattle.samples.proofs.kernels.read_sums.Given as goal

abbrev pub invariant-loop-i : goal.invariant-loop-i
invariant-loop-i l = (k : ℕ) → k < l.i → FitsSigned w64 (sample l.sum k)
