use Rattle.std.proofs.Common.{◌≡◌, ℕ, ◌+◌, ◌*◌, ◌<◌, [], ◌∷◌, get_or, pos}
use Rattle.wave_laws.specs.session_model.specs.Samples.{up, stored}
use Rattle.samples.proofs.scaling.from_32.Given as goal

abbrev pub invariant-loop-block : goal.invariant-loop-block
invariant-loop-block l = (k : ℕ) → k < 4 * l.block → get_or l.out k (pos 0) ≡ up 32 (stored 32 (get_or l.bytes (4 * k) 0 ∷ get_or l.bytes (4 * k + 1) 0 ∷ get_or l.bytes (4 * k + 2) 0 ∷ get_or l.bytes (4 * k + 3) 0 ∷ []))
