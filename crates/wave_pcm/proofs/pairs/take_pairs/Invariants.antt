use Rattle.std.proofs.Common.{◌≡◌, ℕ, ◌+◌, ◌*◌, ◌<◌, [], ◌∷◌, get_or, pos}
use Rattle.samples.specs.session_model.specs.Samples.{up, stored}
use Rattle.wave_pcm.proofs.pairs.take_pairs.Given as goal

abbrev pub invariant-loop-i : goal.invariant-loop-i
invariant-loop-i l = record {
  left : (k : ℕ) → k < l.i → get_or l.left k (pos 0) ≡ up 16 (stored 16 (get_or l.bytes (4 * k) 0 ∷ get_or l.bytes (4 * k + 1) 0 ∷ []));
  right : (k : ℕ) → k < l.i → get_or l.right k (pos 0) ≡ up 16 (stored 16 (get_or l.bytes (4 * k + 2) 0 ∷ get_or l.bytes (4 * k + 3) 0 ∷ []));
}
