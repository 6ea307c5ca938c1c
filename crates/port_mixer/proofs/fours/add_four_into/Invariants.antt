use Rattle.std.proofs.Common.{◌≡◌, ℕ, ◌<◌, ◌≤◌, ◌+ℤ◌, [], ◌∷◌, fold}
use Rattle.session_laws.specs.session_model.specs.Samples.{sample}
use Rattle.port_mixer.proofs.fours.add_four_into.Given as goal

abbrev pub invariant-loop-i : goal.invariant-loop-i
invariant-loop-i l = record {
  done : (k : ℕ) → k < l.i → sample l.sums k ≡ fold ◌+ℤ◌ (sample l.initial.sums k) (sample l.one k ∷ sample l.two k ∷ sample l.three k ∷ sample l.four k ∷ []);
  rest : (k : ℕ) → l.i ≤ k → sample l.sums k ≡ sample l.initial.sums k;
}
