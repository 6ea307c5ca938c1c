-- What a guest hears, and what it plays on all its outputs.
--     none_heard, first_heard      no input, and the first one
--     heard-is      the samples of a period, one by one
--     fill_more      one frame more
--     front      what stands in front
--     played-all      the same on all outputs
use Rattle.std.proofs.Common.{◌≡◌, ℕ, zero, suc, ◌+◌, ◌-◌, ◌*◌, ◌<◌, ◌≤◌, List, [], ◌++◌, length, map, take, drop, replicate, ℤ, pos, refl, sym, ◌∙◌, ap, ap₂, subst, arith}
use Rattle.std.proofs.Math.Seq.{take-append_seam}
use Rattle.std.proofs.lemmas.List.{ext_get_or, get_or-take, length-replicate, length-take-le, take_all}
use Rattle.session_model.specs.Kinds.{fitted, input_at}
use Rattle.session_model.specs.Samples.{below, sample}
use Rattle.session_laws.proofs.ActivationLemmas.{get_or-map_below, length-map_below}
use Rattle.session_laws.proofs.PlaceLemmas.{map-same, sample-silence}
use Rattle.client_kinds.specs.Buffers.{buffers_of}
use Rattle.client_kinds.proofs.BufferLemmas.{buffer_past, buffer_within, length-buffer, place_within}
pub use Rattle.client_kinds.proofs.FillLemmas.{fill_more}
use Rattle.client_kinds.proofs.FitLemmas.{fitted-alike}
use Rattle.guests.specs.Turns.{SoundsAs, heard}

pub none_heard : (inputs period : ℕ) (input : List ℤ) → inputs ≡ 0 → SoundsAs [] (input_at period (buffers_of inputs period input) 0)
none_heard inputs period input none i = sample-silence period i ∙ ap (λ x. sample x i) (sym (buffer_past 0 inputs period input (omega (arith, none))))

pub first_heard : (inputs period : ℕ) (input : List ℤ) → 0 < inputs → take period input ≡ input_at period (buffers_of inputs period input) 0
first_heard inputs period input some = ap₂ (λ (a b : ℕ). take b (drop a input)) (start period) (size period) ∙ sym (buffer_within 0 inputs period input some)
  where
    start : (p : ℕ) → 0 ≡ 0 * p
    start p = omega arith

    size : (p : ℕ) → p ≡ 0 * p + p - 0 * p
    size p = omega arith

pub length_heard : (inputs period : ℕ) (input : List ℤ) → length input ≡ inputs * period → length (input_at period (buffers_of inputs period input) 0) ≡ period
length_heard zero period input lengths = length-replicate period (pos 0)
length_heard (suc inputs) period input lengths =
    ap length (buffer_within 0 (suc inputs) period input (omega arith)) ∙ length-buffer 0 (suc inputs) period input lengths (omega arith)

-- the first samples one by one
take_below : (n : ℕ) (xs : List ℤ) → n ≤ length xs → map (λ i. sample xs i) (below n) ≡ take n xs
take_below n xs h =
    ext_get_or (pos 0) (map (λ i. sample xs i) (below n)) (take n xs) (length-map_below (λ i. sample xs i) n ∙ sym (length-take-le n xs h))
    (λ k within. let low : k < n = omega (arith, within, length-map_below (λ i. sample xs i) n) in get_or-map_below (λ i. sample xs i) n k (pos 0) low ∙ sym (get_or-take n xs k (pos 0) low))

pub heard-is : (period : ℕ) (x sound : List ℤ) → SoundsAs x sound → length sound ≡ period → heard period x ≡ sound
heard-is period x sound same size =
    map-same (λ i. sample x i) (λ i. sample sound i) (below period) same ∙ take_below period sound (omega (arith, size)) ∙ take_all period sound (omega (arith, size))

pub front : (n : ℕ) (xs ys : List ℤ) → length xs ≡ n → take n (xs ++ ys) ≡ xs
front n xs ys h = subst (λ m. take m (xs ++ ys) ≡ xs) h (take-append_seam xs ys)

-- the same on all outputs
replicated : (outputs period : ℕ) (output sound : List ℤ) → length output ≡ outputs * period → (period ≤ length output → take period output ≡ sound) → replicate outputs (take period output) ≡ replicate outputs sound
replicated zero period output sound size played = refl
replicated (suc outputs) period output sound size played =
    ap (replicate (suc outputs)) (played (omega (arith, size, place_within 0 (suc outputs) period (omega arith))))

pub played-all : (outputs period : ℕ) (output sound : List ℤ) → length sound ≡ period → length output ≡ outputs * period → (period ≤ length output → take period output ≡ sound)
    → replicate outputs (take period output) ≡ fitted period outputs (replicate outputs sound)
played-all outputs period output sound whole size played = replicated outputs period output sound size played ∙ sym (fitted-alike period outputs sound whole)
