use Rattle.std.proofs.Common.{◌≡◌, ℕ, ◌<◌, [], ◌∷◌}
use Rattle.session_laws.specs.session_model.specs.Samples.{sample, total}
use Rattle.port_mixer.proofs.fours.set_to_four.Given as goal

abbrev pub invariant-loop-i : goal.invariant-loop-i
invariant-loop-i l = (k : ℕ) → k < l.i → sample l.sums k ≡ total (sample l.one k ∷ sample l.two k ∷ sample l.three k ∷ sample l.four k ∷ [])
