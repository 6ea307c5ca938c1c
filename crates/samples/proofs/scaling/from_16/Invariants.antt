use Rattle.std.proofs.Common.{◌≡◌, ℕ, ◌+◌, ◌*◌, ◌<◌, [], ◌∷◌, get_or, pos}
use Rattle.wave_laws.specs.session_model.specs.Samples.{up, stored}
use Rattle.samples.proofs.scaling.from_16.Given as goal

abbrev pub invariant-loop-block : goal.invariant-loop-block
invariant-loop-block l = (k : ℕ) → k < 8 * l.block → get_or l.out k (pos 0) ≡ up 16 (stored 16 (get_or l.bytes (2 * k) 0 ∷ get_or l.bytes (2 * k + 1) 0 ∷ []))
