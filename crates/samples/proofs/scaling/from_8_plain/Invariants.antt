use Rattle.std.proofs.Common.{◌≡◌, ℕ, ◌<◌, [], ◌∷◌, get_or, pos}
use Rattle.wave_laws.specs.session_model.specs.Samples.{up, stored}
use Rattle.samples.proofs.scaling.from_8_plain.Given as goal

abbrev pub invariant-loop-i : goal.invariant-loop-i
invariant-loop-i l = (k : ℕ) → k < l.i → get_or l.out k (pos 0) ≡ up 8 (stored 8 (get_or l.bytes k 0 ∷ []))
