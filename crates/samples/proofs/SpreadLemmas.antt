-- Blocks of samples on vectors, where bytes are spread over wider lanes.
use Rattle.std.proofs.Common.{◌≡◌, ℕ, zero, suc, ◌+◌, ◌-◌, ◌*◌, ◌/◌, ◌%◌, ◌^◌, ◌<◌, ◌≤◌, Bool, true, false, ltb, List, [], ◌∷◌, ◌++◌, length, drop, map, replicate, get_or, get_or-drop, ℤ, pos, ◌*ℤ◌, refl, sym, ap, ◌∙◌, arith, Fits, to_z, w8, w32}
use Rattle.std.proofs.lemmas.Int.{ints}
use Rattle.std.proofs.lemmas.Bool.{ltb-true, ltb-false}
use Rattle.std.proofs.lemmas.Nat.{xor_lt}
use lib.Bits.{bit_xor}
use lib.Lanes.{zip2, chunk, number_l, digits_l}
use Rattle.std.proofs.lemmas.List.{get_or_append_left, get_or-append_right, get_or-map}
use Rattle.std.proofs.lemmas.Simd.{get_or-zip2, length-zip2, get_or-replicate, get_or-chunk, length-chunk}
use Rattle.wave_laws.specs.session_model.specs.Samples.{up, stored, signed}
use Rattle.samples.proofs.ByteLemmas.{low_byte, high_byte}
use Rattle.samples.proofs.KernelLemmas.{lanes, lanes_below, byte_lane, zero_lane, below_at, under_append, under_take, under_zeros}

-- ---- eight samples of 8 bits

-- a byte is the top one of each word, from lane i on
abbrev pub spread_8 : List ℕ → ℕ → ℕ → List ℕ
spread_8 ls i zero = []
spread_8 ls i (suc n) = get_or ls 8 0 ∷ get_or ls 8 0 ∷ get_or ls 8 0 ∷ get_or ls i 0 ∷ spread_8 ls (suc i) n

tops_8 : (ls : List ℕ) → get_or ls 8 0 ≡ 0 → ((k : ℕ) → get_or ls k 0 < 256) → (n i j : ℕ) → j < n
    → get_or (digits_l 4294967296 n (number_l 256 (spread_8 ls i n))) j 0 ≡ 2 ^ 24 * get_or ls (i + j) 0
tops_8 ls none small zero i j h = absurd (omega arith)
tops_8 ls none small (suc n) i zero h =
    let z : ℕ = get_or ls 8 0 in
    let b : ℕ = get_or ls i 0 in
    let rest : ℕ = number_l 256 (spread_8 ls (suc i) n) in
    let low : b < 256 = small i in
    let here : (z + 256 * (z + 256 * (z + 256 * (b + 256 * rest)))) % 4294967296 ≡ 2 ^ 24 * b = omega arith in
    here ∙ ap (λ (k : ℕ). 2 ^ 24 * get_or ls k 0) (omega arith)
tops_8 ls none small (suc n) i (suc j) h =
    let z : ℕ = get_or ls 8 0 in
    let b : ℕ = get_or ls i 0 in
    let rest : ℕ = number_l 256 (spread_8 ls (suc i) n) in
    let low : b < 256 = small i in
    let next : (z + 256 * (z + 256 * (z + 256 * (b + 256 * rest)))) / 4294967296 ≡ rest = omega arith in
    ap (λ (x : ℕ). get_or (digits_l 4294967296 n x) j 0) next
    ∙ tops_8 ls none small n (suc i) j (omega arith)
    ∙ ap (λ (k : ℕ). 2 ^ 24 * get_or ls k 0) (omega arith)

flip_low : (b : ℕ) → b < 128 → to_z w32 (2 ^ 24 * (b + 128)) ≡ up 8 (stored 8 (b ∷ []))
flip_low b h = grind (arith, ints)

flip_high : (b : ℕ) → b < 128 → to_z w32 (2 ^ 24 * b) ≡ up 8 (stored 8 ((b + 128) ∷ []))
flip_high b h = grind (arith, ints)

word_8-at : (b : ℕ) → b < 256 → (low : Bool) → ltb b 128 ≡ low → to_z w32 (2 ^ 24 * bit_xor b 128) ≡ up 8 (stored 8 (b ∷ []))
word_8-at b h true e =
    let lt : b < 128 = ltb-true b 128 e in
    ap (λ (n : ℕ). to_z w32 (2 ^ 24 * n)) (low_byte b lt) ∙ flip_low b lt
word_8-at b h false e =
    let le : 128 ≤ b = ltb-false b 128 e in
    let is : b - 128 + 128 ≡ b = omega arith in
    ap (λ (n : ℕ). to_z w32 (2 ^ 24 * bit_xor n 128)) (sym is)
    ∙ ap (λ (n : ℕ). to_z w32 (2 ^ 24 * n)) (high_byte (b - 128) (omega arith))
    ∙ flip_high (b - 128) (omega arith)
    ∙ ap (λ (n : ℕ). up 8 (stored 8 (n ∷ []))) is

under_flip : (xs : List ℕ) (n : ℕ) → ((k : ℕ) → get_or xs k 0 < 256) → (k : ℕ) → get_or (zip2 bit_xor xs (replicate n 128)) k 0 < 256
under_flip [] n a k = omega arith
under_flip (x ∷ xs) zero a k = omega arith
under_flip (x ∷ xs) (suc n) a zero = xor_lt 8 x 128 (a zero) (omega arith)
under_flip (x ∷ xs) (suc n) a (suc k) = under_flip xs n (λ j. a (suc j)) k

word_8 : (b : ℕ) → b < 256 → to_z w32 (2 ^ 24 * bit_xor b 128) ≡ up 8 (stored 8 (b ∷ []))
word_8 b h = word_8-at b h (ltb b 128) refl

-- eight bytes of a list with the top bit turned over, and eight zeros behind them
abbrev pub flipped : List ℕ → ℕ → List ℕ
flipped xs at = zip2 bit_xor (chunk at 8 xs) (replicate 8 128) ++ replicate 8 0

pub eight_8 : (xs : List ℕ) (at : ℕ) → at + 8 ≤ length xs → ((k : ℕ) → Fits w8 (get_or xs k 0)) → (j : ℕ) → j < 8
    → get_or (map (to_z w32) (digits_l 4294967296 8 (number_l 256 (spread_8 (flipped xs at) 0 8)))) j (pos 0) ≡ up 8 (stored 8 (get_or xs (at + j) 0 ∷ []))
eight_8 xs at long fits j h =
    let ls : List ℕ = flipped xs at in
    let ys : List ℕ = chunk at 8 xs in
    let count : length ys ≡ 8 = length-chunk at 8 xs long in
    let wide : length (zip2 bit_xor ys (replicate 8 128)) ≡ 8 = length-zip2 bit_xor ys (replicate 8 128) count ∙ count in
    let start : 0 + j ≡ j = omega arith in
    let none : get_or ls 8 0 ≡ 0 = get_or-append_right (zip2 bit_xor ys (replicate 8 128)) (replicate 8 0) 8 8 0 wide (omega arith) in
    let lane : get_or ls j 0 ≡ bit_xor (get_or xs (at + j) 0) 128 =
    get_or_append_left (zip2 bit_xor ys (replicate 8 128)) (replicate 8 0) 0 j (omega (arith, wide))
    ∙ get_or-zip2 bit_xor ys (replicate 8 128) j 0 0 0 (omega (arith, count)) h
    ∙ (λ i. bit_xor (get_or-chunk at 8 xs j 0 h i) (get_or-replicate 8 j 128 0 h i)) in
    let small : (k : ℕ) → get_or ls k 0 < 256 = under_append 256 (zip2 bit_xor ys (replicate 8 128)) (replicate 8 0) (under_flip ys 8 (under_take 256 8 (drop at xs) (λ k. omega (arith, get_or-drop at xs k 0, below_at xs fits (at + k))))) (under_zeros 8) in
    get_or-map (to_z w32) (digits_l 4294967296 8 (number_l 256 (spread_8 ls 0 8))) j 0 (pos 0) h
    ∙ ap (to_z w32) (tops_8 ls none small 8 0 j h ∙ ap (λ (k : ℕ). 2 ^ 24 * get_or ls k 0) start ∙ ap (λ (b : ℕ). 2 ^ 24 * b) lane)
    ∙ word_8 (get_or xs (at + j) 0) (below_at xs fits (at + j))

-- ---- eight samples of 16 bits

-- two bytes are the upper ones of each word, from lane i on
abbrev pub spread_16 : List ℕ → ℕ → ℕ → List ℕ
spread_16 ls i zero = []
spread_16 ls i (suc n) = get_or ls 16 0 ∷ get_or ls 16 0 ∷ get_or ls i 0 ∷ get_or ls (suc i) 0 ∷ spread_16 ls (suc (suc i)) n

pair : List ℕ → ℕ → ℕ
pair ls i = 2 ^ 16 * (get_or ls i 0 + 256 * get_or ls (i + 1) 0)

tops_16 : (ls : List ℕ) → get_or ls 16 0 ≡ 0 → ((k : ℕ) → get_or ls k 0 < 256) → (n i j : ℕ) → j < n
    → get_or (digits_l 4294967296 n (number_l 256 (spread_16 ls i n))) j 0 ≡ pair ls (i + 2 * j)
unfolding pair
tops_16 ls none small zero i j h = absurd (omega arith)
tops_16 ls none small (suc n) i zero h =
    let z : ℕ = get_or ls 16 0 in
    let a : ℕ = get_or ls i 0 in
    let b : ℕ = get_or ls (suc i) 0 in
    let rest : ℕ = number_l 256 (spread_16 ls (suc (suc i)) n) in
    let low : a < 256 = small i in
    let high : b < 256 = small (suc i) in
    let here : (z + 256 * (z + 256 * (a + 256 * (b + 256 * rest)))) % 4294967296 ≡ 2 ^ 16 * (a + 256 * b) = omega arith in
    let e : suc i ≡ i + 1 = omega arith in
    here ∙ ap (λ (k : ℕ). 2 ^ 16 * (a + 256 * get_or ls k 0)) e ∙ ap (pair ls) (omega arith)
tops_16 ls none small (suc n) i (suc j) h =
    let z : ℕ = get_or ls 16 0 in
    let a : ℕ = get_or ls i 0 in
    let b : ℕ = get_or ls (suc i) 0 in
    let rest : ℕ = number_l 256 (spread_16 ls (suc (suc i)) n) in
    let low : a < 256 = small i in
    let high : b < 256 = small (suc i) in
    let next : (z + 256 * (z + 256 * (a + 256 * (b + 256 * rest)))) / 4294967296 ≡ rest = omega arith in
    ap (λ (x : ℕ). get_or (digits_l 4294967296 n x) j 0) next
    ∙ tops_16 ls none small n (suc (suc i)) j (omega arith)
    ∙ ap (pair ls) (omega arith)

scaled_16 : (n : ℕ) → n < 2 ^ 16 → to_z w32 (2 ^ 16 * n) ≡ signed 16 n *ℤ pos (2 ^ 16)
scaled_16 n h = grind (arith, ints)

word_16 : (a b : ℕ) → a < 256 → b < 256 → to_z w32 (2 ^ 16 * (a + 256 * b)) ≡ up 16 (stored 16 (a ∷ b ∷ []))
word_16 a b ha hb =
    let e : a + 256 * b ≡ a + 256 * (b + 256 * 0) = omega arith in
    ap (λ (n : ℕ). to_z w32 (2 ^ 16 * n)) e ∙ scaled_16 (a + 256 * (b + 256 * 0)) (omega arith)

abbrev pub words_16 : List ℕ → ℕ → List ℤ
words_16 xs at = map (to_z w32) (digits_l 4294967296 8 (number_l 256 (spread_16 (lanes xs at) 0 8)))

pub eight_16 : (xs : List ℕ) (at : ℕ) → at + 16 ≤ length xs → ((k : ℕ) → Fits w8 (get_or xs k 0)) → (j i : ℕ) → i ≡ at + 2 * j → j < 8
    → get_or (words_16 xs at) j (pos 0) ≡ up 16 (stored 16 (get_or xs i 0 ∷ get_or xs (i + 1) 0 ∷ []))
unfolding pair
eight_16 xs at long fits j i e h =
    let ls : List ℕ = lanes xs at in
    let zeros : List ℕ = replicate 15 0 in
    let start : 0 + 2 * j ≡ 2 * j = omega arith in
    let none : get_or ls 16 0 ≡ 0 = zero_lane xs zeros at long in
    let first : get_or ls (2 * j) 0 ≡ get_or xs i 0 = byte_lane xs (0 ∷ zeros) at (2 * j) i long (omega arith) (omega arith) in
    let second : get_or ls (2 * j + 1) 0 ≡ get_or xs (i + 1) 0 = byte_lane xs (0 ∷ zeros) at (2 * j + 1) (i + 1) long (omega arith) (omega arith) in
    get_or-map (to_z w32) (digits_l 4294967296 8 (number_l 256 (spread_16 ls 0 8))) j 0 (pos 0) h
    ∙ ap (to_z w32) (tops_16 ls none (lanes_below xs at fits) 8 0 j h ∙ ap (pair ls) start ∙ (λ k. 2 ^ 16 * (first k + 256 * second k)))
    ∙ word_16 (get_or xs i 0) (get_or xs (i + 1) 0) (below_at xs fits i) (below_at xs fits (i + 1))
