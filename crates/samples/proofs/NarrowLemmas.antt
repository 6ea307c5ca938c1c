-- Blocks of samples on vectors, written as bytes.
use Rattle.std.proofs.Common.{◌≡◌, ℕ, zero, suc, ◌+◌, ◌-◌, ◌*◌, ◌/◌, ◌%◌, ◌^◌, ◌<◌, ◌≤◌, List, [], ◌∷◌, ◌++◌, length, take, map, replicate, ℤ, pos, refl, sym, ap, ◌∙◌, arith, of_z, w8, w16, w32, negsuc, ◌+ℤ◌, length-append, length-take-le, take-take, append_assoc}
use Rattle.std.proofs.Math.Seq.{take-add, take-append_seam}
use Rattle.std.proofs.lemmas.Int.{ints}
use Rattle.std.proofs.lemmas.List.Concat.{flat_map-append}
use Rattle.std.proofs.lemmas.Simd.{take_more_put_chunk, Each1-chunk, length-chunk, zip2_splat, map-map}
use Rattle.std.proofs.lemmas.List.{length-map}
use Rattle.std.specs.Prelude.{nat_abs}
use Rattle.std.specs.Int.{bytes_low_first}
use Rattle.std.specs.Int.RustNames.{FitsSigned}
use lib.Bits.{bit_xor}
use lib.Lanes.{Each1, zip2, chunk, put_chunk, number_l, digits_l}
use Rattle.wave_laws.specs.session_model.specs.Samples.{down, unsigned, storing, bytes_of}
use Rattle.samples.proofs.ByteLemmas.{low_byte, high_byte}

-- ---- a block behind the bytes that are done

written : (bits : ℕ) (samples : List ℤ) (old block : List ℕ) (place n at m : ℕ)
    → take at old ≡ bytes_of bits (take place samples) → block ≡ bytes_of bits (chunk place n samples) → m ≡ at + length block → m ≤ length old
    → take m (put_chunk at old block) ≡ bytes_of bits (take (place + n) samples)
written bits samples old block place n at m front here is room =
    take_more_put_chunk at old block m is room
    ∙ (λ i. front i ++ here i)
    ∙ sym (flat_map-append (λ x. storing bits (down bits x)) (take place samples) (chunk place n samples))
    ∙ ap (bytes_of bits) (sym (take-add place n samples))

-- ---- four bytes of each word

abbrev fours : List ℤ → ℕ
fours [] = 0
fours (z ∷ zs) = suc (suc (suc (suc (fours zs))))

fours-length : (zs : List ℤ) → fours zs ≡ 4 * length zs
fours-length [] = refl
fours-length (z ∷ zs) = omega (arith, fours-length zs)

stored_32 : (z : ℤ) → FitsSigned w32 z → bytes_low_first 0 4 (of_z w32 z) ≡ storing 32 (down 32 z)
stored_32 z fits = grind (arith, ints)

of_z-below : (z : ℤ) → FitsSigned w32 z → of_z w32 z < 2 ^ 32
of_z-below z fits = omega (arith, ints)

words_32 : (zs : List ℤ) → Each1 (FitsSigned w32) zs → digits_l 256 (fours zs) (number_l 4294967296 (map (of_z w32) zs)) ≡ bytes_of 32 zs
words_32 [] fit = refl
words_32 (z ∷ zs) fit =
    let n : ℕ = of_z w32 z in
    let m : ℕ = number_l 4294967296 (map (of_z w32) zs) in
    let x : ℕ = n + 4294967296 * m in
    let small : n < 2 ^ 32 = of_z-below z fit.0 in
    let a : x % 256 ≡ n % 256 = omega arith in
    let b : x / 256 % 256 ≡ n / 256 ^ 1 % 256 = omega arith in
    let c : x / 256 / 256 % 256 ≡ n / 256 ^ 2 % 256 = omega arith in
    let d : x / 256 / 256 / 256 % 256 ≡ n / 256 ^ 3 % 256 = omega arith in
    let rest : x / 256 / 256 / 256 / 256 ≡ m = omega arith in
    (λ i. a i ∷ b i ∷ c i ∷ d i ∷ digits_l 256 (fours zs) (rest i))
    ∙ (λ i. bytes_low_first 0 4 n ++ words_32 zs fit.1 i)
    ∙ ap (λ (front : List ℕ). front ++ bytes_of 32 zs) (stored_32 z fit.0)

pub four_to_32 : (samples : List ℤ) (old : List ℕ) (place : ℕ) → place + 4 ≤ length samples → 4 * place + 16 ≤ length old → Each1 (FitsSigned w32) samples
    → take (4 * place) old ≡ bytes_of 32 (take place samples)
    → take (4 * place + 16) (put_chunk (4 * place) old (digits_l 256 16 (number_l 4294967296 (map (of_z w32) (chunk place 4 samples))))) ≡ bytes_of 32 (take (place + 4) samples)
four_to_32 samples old place there room fit front =
    let zs : List ℤ = chunk place 4 samples in
    let count : fours zs ≡ 16 = fours-length zs ∙ ap (λ (n : ℕ). 4 * n) (length-chunk place 4 samples there) in
    written 32 samples old (digits_l 256 16 (number_l 4294967296 (map (of_z w32) zs))) place 4 (4 * place) (4 * place + 16) front
    (ap (λ (n : ℕ). digits_l 256 n (number_l 4294967296 (map (of_z w32) zs))) (sym count) ∙ words_32 zs (Each1-chunk (FitsSigned w32) place 4 samples fit)) refl room

-- ---- the lowest byte of each word, where 128 stands for 0

abbrev pub lows : ℕ → ℕ → List ℕ
lows zero x = []
lows (suc n) x = bit_xor (x % 256) 128 ∷ lows n (x / 256 / 256 / 256 / 256)

-- a byte in two's complement, counted from -128
from_least : (s : ℤ) → FitsSigned w8 s → bit_xor (of_z w32 s % 256) 128 ≡ nat_abs (s +ℤ pos 128) % 256
from_least (pos n) fits =
    let h : n < 128 = fits.sfits in
    let a : of_z w32 (pos n) % 256 ≡ n = omega arith in
    ap (λ (b : ℕ). bit_xor b 128) a ∙ low_byte n h ∙ omega (arith, ints)
from_least (negsuc n) fits =
    let h : n < 128 = omega (arith, ints) in
    let a : of_z w32 (negsuc n) % 256 ≡ 127 - n + 128 = omega arith in
    ap (λ (b : ℕ). bit_xor b 128) a ∙ high_byte (127 - n) (omega arith) ∙ omega (arith, ints)

top_fits : (z : ℤ) → FitsSigned w32 z → FitsSigned w8 (down 8 z)
top_fits (pos n) fits = grind (arith, ints)
top_fits (negsuc n) fits = grind (arith, ints)

stored_8 : (z : ℤ) → FitsSigned w32 z → bit_xor (of_z w32 (down 8 z) % 256) 128 ∷ [] ≡ storing 8 (down 8 z)
stored_8 z fits = ap (λ (b : ℕ). b ∷ []) (from_least (down 8 z) (top_fits z fits))

byte-below : (s : ℤ) → FitsSigned w8 s → of_z w32 s < 2 ^ 32
byte-below (pos n) fits = omega (arith, ints)
byte-below (negsuc n) fits = omega (arith, ints)

words_8 : (f : ℤ → ℕ) (zs : List ℤ) → ((z : ℤ) → FitsSigned w32 z → f z ≡ of_z w32 (down 8 z)) → Each1 (FitsSigned w32) zs
    → lows (length zs) (number_l 4294967296 (map f zs)) ≡ bytes_of 8 zs
words_8 f [] shifts fit = refl
words_8 f (z ∷ zs) shifts fit =
    let n : ℕ = f z in
    let m : ℕ = number_l 4294967296 (map f zs) in
    let x : ℕ = n + 4294967296 * m in
    let e : n ≡ of_z w32 (down 8 z) = shifts z fit.0 in
    let small : n < 2 ^ 32 = omega (arith, e, byte-below (down 8 z) (top_fits z fit.0)) in
    let a : x % 256 ≡ of_z w32 (down 8 z) % 256 = omega arith in
    let rest : x / 256 / 256 / 256 / 256 ≡ m = omega arith in
    (λ i. bit_xor (a i) 128 ∷ lows (length zs) (rest i))
    ∙ (λ i. bit_xor (of_z w32 (down 8 z) % 256) 128 ∷ words_8 f zs shifts fit.1 i)
    ∙ ap (λ (front : List ℕ). front ++ bytes_of 8 zs) (stored_8 z fit.0)

pub sixteen_to_8 : (f : ℕ → ℕ → ℕ) (samples : List ℤ) (old : List ℕ) (place : ℕ) → ((z : ℤ) → FitsSigned w32 z → f (of_z w32 z) 24 ≡ of_z w32 (down 8 z))
    → place + 16 ≤ length samples → place + 16 ≤ length old → Each1 (FitsSigned w32) samples
    → take place old ≡ bytes_of 8 (take place samples)
    → take (place + 16) (put_chunk place old (lows 16 (number_l 4294967296 (zip2 f (map (of_z w32) (chunk place 16 samples)) (replicate 16 24))))) ≡ bytes_of 8 (take (place + 16) samples)
sixteen_to_8 f samples old place shifts there room fit front =
    let zs : List ℤ = chunk place 16 samples in
    let long : length zs ≡ 16 = length-chunk place 16 samples there in
    let g : ℤ → ℕ = λ z. f (of_z w32 z) 24 in
    let words : List ℕ = zip2 f (map (of_z w32) zs) (replicate 16 24) in
    let same : words ≡ map g zs = zip2_splat f (map (of_z w32) zs) 16 24 (length-map zs (of_z w32) ∙ long) ∙ map-map (λ x. f x 24) (of_z w32) zs in
    written 8 samples old (lows 16 (number_l 4294967296 words)) place 16 place (place + 16) front
    (ap (λ (ws : List ℕ). lows 16 (number_l 4294967296 ws)) same ∙ ap (λ (n : ℕ). lows n (number_l 4294967296 (map g zs))) (sym long) ∙ words_8 g zs shifts (Each1-chunk (FitsSigned w32) place 16 samples fit)) refl room

-- ---- the two lowest bytes of each word

abbrev pub pairs : ℕ → ℕ → List ℕ
pairs zero x = []
pairs (suc n) x = x % 256 ∷ x / 256 % 256 ∷ pairs n (x / 256 / 256 / 256 / 256)

half_fits : (z : ℤ) → FitsSigned w32 z → FitsSigned w16 (down 16 z)
half_fits (pos n) fits = grind (arith, ints)
half_fits (negsuc n) fits = grind (arith, ints)

half-below : (s : ℤ) → FitsSigned w16 s → of_z w32 s < 2 ^ 32
half-below (pos n) fits = omega (arith, ints)
half-below (negsuc n) fits = omega (arith, ints)

unsigned_half : (s : ℤ) → FitsSigned w16 s → of_z w32 s % 2 ^ 16 ≡ unsigned 16 s
unsigned_half (pos n) fits = grind (arith, ints)
unsigned_half (negsuc n) fits = grind (arith, ints)

stored_16 : (s : ℤ) → FitsSigned w16 s → of_z w32 s % 256 ∷ of_z w32 s / 256 % 256 ∷ [] ≡ storing 16 s
stored_16 s fits =
    let x : ℕ = of_z w32 s in
    let n : ℕ = unsigned 16 s in
    let e : x % 2 ^ 16 ≡ n = unsigned_half s fits in
    let a : x % 256 ≡ n % 256 = omega (arith, e) in
    let b : x / 256 % 256 ≡ n / 256 ^ 1 % 256 = omega (arith, e) in
    λ i. a i ∷ b i ∷ []

words_16 : (f : ℤ → ℕ) (zs : List ℤ) → ((z : ℤ) → FitsSigned w32 z → f z ≡ of_z w32 (down 16 z)) → Each1 (FitsSigned w32) zs
    → pairs (length zs) (number_l 4294967296 (map f zs)) ≡ bytes_of 16 zs
words_16 f [] shifts fit = refl
words_16 f (z ∷ zs) shifts fit =
    let n : ℕ = f z in
    let m : ℕ = number_l 4294967296 (map f zs) in
    let x : ℕ = n + 4294967296 * m in
    let s : ℤ = down 16 z in
    let e : n ≡ of_z w32 s = shifts z fit.0 in
    let small : n < 2 ^ 32 = omega (arith, e, half-below s (half_fits z fit.0)) in
    let a : x % 256 ≡ of_z w32 s % 256 = omega arith in
    let b : x / 256 % 256 ≡ of_z w32 s / 256 % 256 = omega arith in
    let rest : x / 256 / 256 / 256 / 256 ≡ m = omega arith in
    (λ i. a i ∷ b i ∷ pairs (length zs) (rest i))
    ∙ (λ i. of_z w32 s % 256 ∷ of_z w32 s / 256 % 256 ∷ words_16 f zs shifts fit.1 i)
    ∙ ap (λ (front : List ℕ). front ++ bytes_of 16 zs) (stored_16 s (half_fits z fit.0))

pub sixteen_to_16 : (f : ℕ → ℕ → ℕ) (samples : List ℤ) (old : List ℕ) (place : ℕ) → ((z : ℤ) → FitsSigned w32 z → f (of_z w32 z) 16 ≡ of_z w32 (down 16 z))
    → place + 16 ≤ length samples → 2 * place + 32 ≤ length old → Each1 (FitsSigned w32) samples
    → take (2 * place) old ≡ bytes_of 16 (take place samples)
    → take (2 * place + 32) (put_chunk (2 * place) old (pairs 16 (number_l 4294967296 (zip2 f (map (of_z w32) (chunk place 16 samples)) (replicate 16 16))))) ≡ bytes_of 16 (take (place + 16) samples)
sixteen_to_16 f samples old place shifts there room fit front =
    let zs : List ℤ = chunk place 16 samples in
    let long : length zs ≡ 16 = length-chunk place 16 samples there in
    let g : ℤ → ℕ = λ z. f (of_z w32 z) 16 in
    let words : List ℕ = zip2 f (map (of_z w32) zs) (replicate 16 16) in
    let same : words ≡ map g zs = zip2_splat f (map (of_z w32) zs) 16 16 (length-map zs (of_z w32) ∙ long) ∙ map-map (λ x. f x 16) (of_z w32) zs in
    written 16 samples old (pairs 16 (number_l 4294967296 words)) place 16 (2 * place) (2 * place + 32) front
    (ap (λ (ws : List ℕ). pairs 16 (number_l 4294967296 ws)) same ∙ ap (λ (n : ℕ). pairs n (number_l 4294967296 (map g zs))) (sym long) ∙ words_16 g zs shifts (Each1-chunk (FitsSigned w32) place 16 samples fit)) refl room

-- ---- the three upper bytes of each word

abbrev pub uppers : ℕ → ℕ → List ℕ
uppers zero x = []
uppers (suc n) x = x / 256 % 256 ∷ x / 256 / 256 % 256 ∷ x / 256 / 256 / 256 % 256 ∷ uppers n (x / 256 / 256 / 256 / 256)

stored_24 : (z : ℤ) → FitsSigned w32 z → of_z w32 z / 256 ^ 1 % 256 ∷ of_z w32 z / 256 ^ 2 % 256 ∷ of_z w32 z / 256 ^ 3 % 256 ∷ [] ≡ storing 24 (down 24 z)
stored_24 z fits = grind (arith, ints)

words_24 : (zs : List ℤ) → Each1 (FitsSigned w32) zs → uppers (length zs) (number_l 4294967296 (map (of_z w32) zs)) ≡ bytes_of 24 zs
words_24 [] fit = refl
words_24 (z ∷ zs) fit =
    let n : ℕ = of_z w32 z in
    let m : ℕ = number_l 4294967296 (map (of_z w32) zs) in
    let x : ℕ = n + 4294967296 * m in
    let small : n < 2 ^ 32 = of_z-below z fit.0 in
    let b : x / 256 % 256 ≡ n / 256 ^ 1 % 256 = omega arith in
    let c : x / 256 / 256 % 256 ≡ n / 256 ^ 2 % 256 = omega arith in
    let d : x / 256 / 256 / 256 % 256 ≡ n / 256 ^ 3 % 256 = omega arith in
    let rest : x / 256 / 256 / 256 / 256 ≡ m = omega arith in
    (λ i. b i ∷ c i ∷ d i ∷ uppers (length zs) (rest i))
    ∙ (λ i. n / 256 ^ 1 % 256 ∷ n / 256 ^ 2 % 256 ∷ n / 256 ^ 3 % 256 ∷ words_24 zs fit.1 i)
    ∙ ap (λ (front : List ℕ). front ++ bytes_of 24 zs) (stored_24 z fit.0)

-- a block of which a front alone counts
front_written : (bits : ℕ) (samples : List ℤ) (old block more : List ℕ) (place n at m : ℕ)
    → take at old ≡ bytes_of bits (take place samples) → block ≡ bytes_of bits (chunk place n samples) → m ≡ at + length block → m + length more ≤ length old
    → take m (put_chunk at old (block ++ more)) ≡ bytes_of bits (take (place + n) samples)
front_written bits samples old block more place n at m front here is room =
    let whole : List ℕ = put_chunk at old (block ++ more) in
    let done : take (m + length more) whole ≡ take at old ++ (block ++ more) = take_more_put_chunk at old (block ++ more) (m + length more) (omega (arith, length-append block more)) room in
    let long : length (take at old ++ block) ≡ m = omega (arith, length-append (take at old) block, length-take-le at old (omega arith)) in
    sym (take-take m (m + length more) whole (omega arith))
    ∙ ap (take m) (done ∙ sym (append_assoc (take at old) block more))
    ∙ ap (λ (k : ℕ). take k ((take at old ++ block) ++ more)) (sym long)
    ∙ take-append_seam (take at old ++ block) more
    ∙ (λ i. front i ++ here i)
    ∙ sym (flat_map-append (λ x. storing bits (down bits x)) (take place samples) (chunk place n samples))
    ∙ ap (bytes_of bits) (sym (take-add place n samples))

pub four_to_24 : (samples : List ℤ) (old : List ℕ) (place : ℕ) → place + 4 ≤ length samples → 3 * place + 16 ≤ length old → Each1 (FitsSigned w32) samples
    → take (3 * place) old ≡ bytes_of 24 (take place samples) → (a b c d : ℕ)
    → take (3 * place + 12) (put_chunk (3 * place) old (uppers 4 (number_l 4294967296 (map (of_z w32) (chunk place 4 samples))) ++ a ∷ b ∷ c ∷ d ∷ [])) ≡ bytes_of 24 (take (place + 4) samples)
four_to_24 samples old place there room fit front a b c d =
    let zs : List ℤ = chunk place 4 samples in
    let x : ℕ = number_l 4294967296 (map (of_z w32) zs) in
    front_written 24 samples old (uppers 4 x) (a ∷ b ∷ c ∷ d ∷ []) place 4 (3 * place) (3 * place + 12) front
    (ap (λ (n : ℕ). uppers n x) (sym (length-chunk place 4 samples there)) ∙ words_24 zs (Each1-chunk (FitsSigned w32) place 4 samples fit)) refl (omega arith)
