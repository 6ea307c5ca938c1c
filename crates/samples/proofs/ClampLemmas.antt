-- Blocks of sums on vectors, clamped to samples by their halves.
use Rattle.std.proofs.Common.{◌≡◌, ℕ, zero, suc, ◌+◌, ◌/◌, ◌%◌, ◌^◌, ◌<◌, ◌≤◌, cond, List, [], ◌∷◌, ◌++◌, length, take, map, ℤ, pos, negsuc, refl, sym, ap, ◌∙◌, arith, of_z, to_z, w32, w64, append_assoc, append-nil}
use Rattle.std.proofs.Math.Seq.{take-add}
use Rattle.std.proofs.lemmas.Int.{ints}
use Rattle.std.proofs.lemmas.List.{map-append}
use Rattle.std.proofs.lemmas.Simd.{take_more_put_chunk, Each1-chunk, length-chunk}
use Rattle.std.specs.Int.RustNames.{FitsSigned}
use lib.Dec.{eqb}
use lib.Lanes.{Each1, chunk, put_chunk, top, number_l, digits_l}
use lib.Signed.{lt_z, shr_z}
use Rattle.wave_laws.specs.session_model.specs.Samples.{clamp}

-- ---- one lane

-- of the upper and the lower half of a sum, as words of 32 bits
abbrev pub nearest : ℕ → ℕ → ℕ
nearest upper lower =
    cond (top 31 (cond (eqb upper (of_z w32 (shr_z (to_z w32 lower) (2 ^ 31)))) 4294967295 0)) lower
    (cond (top 31 (cond (lt_z (to_z w32 upper) (pos 0)) 4294967295 0)) 2147483648 2147483647)

pub lane : (z : ℤ) → FitsSigned w64 z → to_z w32 (nearest (of_z w64 z / 4294967296) (of_z w64 z % 4294967296)) ≡ clamp z
lane (pos n) fits = grind (arith, ints)
lane (negsuc n) fits = grind (arith, ints)

-- ---- two sums, taken apart into halves by way of their bytes

again : (n x : ℕ) → x < 256 ^ n → number_l 256 (digits_l 256 n x) ≡ x
again zero x small = omega (arith, small)
again (suc n) x small =
    let rest : number_l 256 (digits_l 256 n (x / 256)) ≡ x / 256 = again n (x / 256) (omega (arith, small)) in
    omega (arith, rest)

-- two sums as a number of sixteen bytes
abbrev pub joined : List ℤ → ℕ
joined zs = number_l 18446744073709551616 (map (of_z w64) zs)

-- the half of a place, where the least is that of place 0
abbrev pub half : ℕ → ℕ → ℕ
half zero x = x % 4294967296
half (suc k) x = half k (x / 4294967296)

-- two sums clamped by their halves
abbrev pub block : ℕ → List ℤ → List ℤ
block x zs = to_z w32 (nearest (half 1 x) (half 0 x)) ∷ to_z w32 (nearest (half 3 x) (half 2 x)) ∷ zs

word_fits : (z : ℤ) → FitsSigned w64 z → of_z w64 z < 2 ^ 64
word_fits z fits = omega (arith, ints)

two : (zs others : List ℤ) → length zs ≡ 2 → Each1 (FitsSigned w64) zs → block (number_l 256 (digits_l 256 16 (joined zs))) (map clamp others) ≡ map clamp (zs ++ others)
two [] others long fit = absurd (omega (arith, long))
two (a ∷ []) others long fit = absurd (omega (arith, long))
two (a ∷ b ∷ c ∷ zs) others long fit = absurd (omega (arith, long))
two (a ∷ b ∷ []) others long fit =
    let v : ℕ = of_z w64 a in
    let w : ℕ = of_z w64 b in
    let small_v : v < 2 ^ 64 = word_fits a fit.0 in
    let small_w : w < 2 ^ 64 = word_fits b fit.1.0 in
    let x : ℕ = joined (a ∷ b ∷ []) in
    let whole : number_l 256 (digits_l 256 16 x) ≡ x = again 16 x (omega arith) in
    let lower_a : half 0 x ≡ v % 4294967296 = omega arith in
    let upper_a : half 1 x ≡ v / 4294967296 = omega arith in
    let lower_b : half 2 x ≡ w % 4294967296 = omega arith in
    let upper_b : half 3 x ≡ w / 4294967296 = omega arith in
    ap (λ (y : ℕ). block y (map clamp others)) whole
    ∙ (λ i. to_z w32 (nearest (upper_a i) (lower_a i)) ∷ to_z w32 (nearest (upper_b i) (lower_b i)) ∷ map clamp others)
    ∙ (λ i. lane a fit.0 i ∷ lane b fit.1.0 i ∷ map clamp others)

-- ---- four sums

pub settle_four : (sum out : List ℤ) (place : ℕ) → place + 4 ≤ length sum → place + 4 ≤ length out → Each1 (FitsSigned w64) sum
    → take place out ≡ map clamp (take place sum)
    → take (place + 4) (put_chunk place out (block (number_l 256 (digits_l 256 16 (joined (chunk place 2 sum)))) (block (number_l 256 (digits_l 256 16 (joined (chunk (place + 2) 2 sum)))) []))) ≡ map clamp (take (place + 4) sum)
settle_four sum out place there room fit front =
    let first : List ℤ = chunk place 2 sum in
    let second : List ℤ = chunk (place + 2) 2 sum in
    let halves : List ℤ → ℕ = λ zs. number_l 256 (digits_l 256 16 (joined zs)) in
    let behind : block (halves second) [] ≡ map clamp (second ++ []) = two second [] (length-chunk (place + 2) 2 sum (omega (arith, there))) (Each1-chunk (FitsSigned w64) (place + 2) 2 sum fit) in
    let is : block (halves first) (block (halves second) []) ≡ map clamp (first ++ (second ++ [])) =
    ap (λ (zs : List ℤ). block (halves first) zs) behind
    ∙ two first (second ++ []) (length-chunk place 2 sum (omega (arith, there))) (Each1-chunk (FitsSigned w64) place 2 sum fit) in
    take_more_put_chunk place out (block (halves first) (block (halves second) [])) (place + 4) refl room
    ∙ (λ i. front i ++ is i)
    ∙ sym (map-append clamp (take place sum) (first ++ (second ++ [])))
    ∙ ap (map clamp) all
  where
    all : take place sum ++ (chunk place 2 sum ++ (chunk (place + 2) 2 sum ++ [])) ≡ take (place + 4) sum
    all = sym (
        ap (λ (n : ℕ). take n sum) (omega arith)
        ∙ take-add (place + 2) 2 sum
        ∙ ap (λ (zs : List ℤ). zs ++ chunk (place + 2) 2 sum) (take-add place 2 sum)
        ∙ append_assoc (take place sum) (chunk place 2 sum) (chunk (place + 2) 2 sum)
        ∙ ap (λ (zs : List ℤ). take place sum ++ (chunk place 2 sum ++ zs)) (sym (append-nil (chunk (place + 2) 2 sum)))
        )
