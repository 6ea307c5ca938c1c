-- The mix of an input alone.
--     mixed_alone      it is the input
use Rattle.std.proofs.Common.{◌≡◌, ℕ, ◌+◌, ◌*◌, List, [], ◌∷◌, length, map, ℤ, pos, negsuc, ◌+ℤ◌, sym, ◌∙◌, ap, arith}
use Rattle.std.specs.Int.{w32}
use Rattle.std.specs.Prelude.{FitsSigned, slice_range}
use Rattle.std.proofs.lemmas.Int.{ints}
use Rattle.std.proofs.lemmas.List.{ext_get_or}
use Rattle.port_mixer.specs.session_model.specs.Samples.{clamp, mix, sample, total}
use Rattle.port_mixer.specs.session_laws.proofs.ActivationLemmas.{length-map_below, get_or-map_below}
use Rattle.port_mixer.specs.Sums.{AreSamples}
use Rattle.client_kinds.specs.Buffers.{buffers_of}

-- a sample is its own clamp
clamp-sample : (x : ℤ) → FitsSigned w32 x → clamp (pos 0 +ℤ x) ≡ x
clamp-sample (pos n) fits = grind (arith, ints)
clamp-sample (negsuc n) fits = grind (arith, ints)

alone : (period : ℕ) (buffer : List ℤ) → length buffer ≡ period → AreSamples buffer → buffer ≡ mix period (buffer ∷ [])
alone period buffer long small =
    ext_get_or (pos 0) buffer (mix period (buffer ∷ [])) (long ∙ sym (length-map_below sum period))
    (λ k h. sym (get_or-map_below sum period k (pos 0) (omega (arith, h, long)) ∙ clamp-sample (sample buffer k) (small k)))
  where
    sum : ℕ → ℤ
    sum i = clamp (total (map (λ part. sample part i) (buffer ∷ [])))

pub mixed_alone : (count period : ℕ) (input buffer : List ℤ) → count ≡ 1 → buffer ≡ slice_range input (0 * period) (0 * period + period) → length buffer ≡ period → AreSamples buffer
    → buffer ≡ mix period (buffers_of count period input)
mixed_alone count period input buffer one is long small =
    alone period buffer long small
    ∙ ap (λ (only : List ℤ). mix period (only ∷ [])) is
    ∙ ap (λ (n : ℕ). mix period (buffers_of n period input)) (sym one)
