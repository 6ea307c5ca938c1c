-- Channels laid into a block, from the first on.
--     laid-next      one channel more
--     laid-all      a block of all channels
--     laid-pair      a block of two channels, each of one sound
use Rattle.std.proofs.Common.{◌≡◌, ℕ, zero, suc, ◌+◌, ◌*◌, ◌<◌, ◌≤◌, List, [], ◌∷◌, ◌++◌, length, map, get_or, ℤ, refl, sym, ◌∙◌, ap, subst, arith, add-one}
use Rattle.session_model.specs.Samples.{below, interleaved, mix, sample}
use Rattle.session_laws.proofs.ActivationLemmas.{get_or-map_below, length-map_below}
use Rattle.port_mixer.specs.Sums.{AreSamples}
use Rattle.client_benches.proofs.PartLemmas.{sample-alone}
use Rattle.client_benches.proofs.SliceLemmas.{map_more}
use Rattle.device_periods.specs.Blocks.{IsLaid}
use Rattle.device_periods.proofs.PeriodLemmas.{laid_whole}

pub laid-next : (frames n : ℕ) (f : ℕ → List ℤ) (i : ℕ) (samples block new : List ℤ) → samples ≡ f i
    → ((buffers : List (List ℤ)) → length buffers ≡ i → IsLaid n frames buffers block → IsLaid n frames (buffers ++ samples ∷ []) new)
    → IsLaid n frames (map f (below i)) block → IsLaid n frames (map f (below (i + 1))) new
laid-next frames n f i samples block new is lays before =
    subst (λ (buffers : List (List ℤ)). IsLaid n frames buffers new)
    (ap (λ (x : List ℤ). map f (below i) ++ x ∷ []) is ∙ sym (map_more f (below i) i) ∙ ap (λ (k : ℕ). map f (below k)) (sym (add-one i)))
    (lays (map f (below i)) (length-map_below f i) before)

pub laid-all : (frames n m : ℕ) (f : ℕ → List ℤ) (block : List ℤ) → length block ≡ frames * n → n ≤ m → IsLaid n frames (map f (below m)) block → block ≡ interleaved frames (map f (below n))
laid-all frames n m f block long high laid =
    laid_whole frames n (map f (below n)) block long (length-map_below f n)
    (λ i c low within. laid i c low (omega (arith, within, high, length-map_below f m))
    ∙ ap (λ (buffer : List ℤ). sample buffer i) (get_or-map_below f m c [] (omega (arith, within, high)) ∙ sym (get_or-map_below f n c [] within)))

pub laid-pair : (frames : ℕ) (left right : List ℤ) (f : ℕ → List ℤ) (block : List ℤ) → AreSamples left → AreSamples right → f 0 ≡ mix frames (left ∷ []) → f 1 ≡ mix frames (right ∷ [])
    → length block ≡ frames * 2 → IsLaid 2 frames (left ∷ right ∷ []) block → block ≡ interleaved frames (map f (below 2))
laid-pair frames left right f block low high first second long laid = laid_whole frames 2 (map f (below 2)) block long refl (λ i c within few. laid i c within few ∙ one i within c few)
  where
    one : (i : ℕ) → i < frames → (c : ℕ) → c < 2 → sample (get_or (left ∷ right ∷ []) c []) i ≡ sample (get_or (map f (below 2)) c []) i
    one i within zero few = sym (sample-alone frames left i within low) ∙ ap (λ (buffer : List ℤ). sample buffer i) (sym first)
    one i within (suc zero) few = sym (sample-alone frames right i within high) ∙ ap (λ (buffer : List ℤ). sample buffer i) (sym second)
    one i within (suc (suc c)) few = absurd (omega (arith, few))
