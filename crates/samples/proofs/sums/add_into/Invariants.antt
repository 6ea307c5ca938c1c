use Rattle.std.proofs.Common.{◌≡◌, ℕ, ◌<◌, ◌≤◌, ◌+ℤ◌}
use Rattle.wave_laws.specs.session_model.specs.Samples.{sample}
use Rattle.samples.proofs.sums.add_into.Given as goal

abbrev pub invariant-loop-i : goal.invariant-loop-i
invariant-loop-i l = record {
  done : (k : ℕ) → k < l.i → sample l.sum k ≡ sample l.initial.sum k +ℤ sample l.part k;
  rest : (k : ℕ) → l.i ≤ k → sample l.sum k ≡ sample l.initial.sum k;
}
