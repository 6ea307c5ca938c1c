-- Samples, where each is read at its place in the bytes.
use Rattle.std.proofs.Common.{◌≡◌, ℕ, ◌+◌, ◌-◌, ◌*◌, ◌/◌, ◌<◌, List, [], ◌∷◌, length, take, drop, get_or, ℤ, pos, sym, ap, ◌∙◌, arith}
use Rattle.std.specs.Prelude.{slice_range}
use Rattle.std.proofs.lemmas.List.{ext_get_or, drop_more}
use Rattle.std.proofs.lemmas.Nat.{div-mul-add}
use Rattle.wave_laws.specs.session_model.specs.Samples.{up, width, stored, samples_of}
use Rattle.wave_laws.proofs.WaveSamples.{length-samples_of, get_or-samples_of}

-- ---- the bytes of a sample

front_1 : (xs : List ℕ) (i : ℕ) → i < length xs → take 1 (drop i xs) ≡ get_or xs i 0 ∷ []
front_1 xs i h = ap (take 1) (drop_more xs i 0 h)

front_2 : (xs : List ℕ) (i : ℕ) → i + 1 < length xs → take 2 (drop i xs) ≡ get_or xs i 0 ∷ get_or xs (i + 1) 0 ∷ []
front_2 xs i h = ap (take 2) (drop_more xs i 0 (omega arith)) ∙ ap (λ (r : List ℕ). get_or xs i 0 ∷ r) (front_1 xs (i + 1) h)

front_3 : (xs : List ℕ) (i : ℕ) → i + 2 < length xs → take 3 (drop i xs) ≡ get_or xs i 0 ∷ get_or xs (i + 1) 0 ∷ get_or xs (i + 2) 0 ∷ []
front_3 xs i h =
    let e : i + 1 + 1 ≡ i + 2 = omega arith in
    ap (take 3) (drop_more xs i 0 (omega arith))
    ∙ ap (λ (r : List ℕ). get_or xs i 0 ∷ r) (front_2 xs (i + 1) (omega arith))
    ∙ ap (λ (k : ℕ). get_or xs i 0 ∷ get_or xs (i + 1) 0 ∷ get_or xs k 0 ∷ []) e

pub front_4 : (xs : List ℕ) (i : ℕ) → i + 3 < length xs → take 4 (drop i xs) ≡ get_or xs i 0 ∷ get_or xs (i + 1) 0 ∷ get_or xs (i + 2) 0 ∷ get_or xs (i + 3) 0 ∷ []
front_4 xs i h =
    let e : i + 1 + 1 ≡ i + 2 = omega arith in
    let f : i + 1 + 2 ≡ i + 3 = omega arith in
    ap (take 4) (drop_more xs i 0 (omega arith))
    ∙ ap (λ (r : List ℕ). get_or xs i 0 ∷ r) (front_3 xs (i + 1) (omega arith))
    ∙ ap (λ (k : ℕ). get_or xs i 0 ∷ get_or xs (i + 1) 0 ∷ get_or xs k 0 ∷ get_or xs (i + 1 + 2) 0 ∷ []) e
    ∙ ap (λ (k : ℕ). get_or xs i 0 ∷ get_or xs (i + 1) 0 ∷ get_or xs (i + 2) 0 ∷ get_or xs k 0 ∷ []) f

-- ---- samples, where each is read at its place

samples_by : (bits : ℕ) (bytes : List ℕ) (out : List ℤ) → 0 < width bits → length bytes ≡ length out * width bits
    → ((k : ℕ) → k < length out → get_or out k (pos 0) ≡ up bits (stored bits (slice_range bytes (k * width bits) (k * width bits + width bits))))
    → out ≡ samples_of bits bytes
samples_by bits bytes out some long each =
    let count : length bytes / width bits ≡ length out = ap (λ (n : ℕ). n / width bits) (long ∙ omega arith) ∙ div-mul-add (length out) (width bits) 0 some in
    ext_get_or (pos 0) out (samples_of bits bytes) (omega (arith, length-samples_of bits bytes, count)) (λ k h.
    each k h ∙ sym (get_or-samples_of bits bytes k (pos 0) (omega (arith, h, count))))

slice_at : (xs : List ℕ) (k w i : ℕ) → k * w ≡ i → slice_range xs (k * w) (k * w + w) ≡ take w (drop i xs)
slice_at xs k w i e =
    let n : k * w + w - k * w ≡ w = omega arith in
    ap (λ (m : ℕ). take m (drop (k * w) xs)) n ∙ ap (λ (j : ℕ). take w (drop j xs)) e

pub samples_8 : (bytes : List ℕ) (out : List ℤ) → length bytes ≡ length out
    → ((k : ℕ) → k < length out → get_or out k (pos 0) ≡ up 8 (stored 8 (get_or bytes k 0 ∷ [])))
    → out ≡ samples_of 8 bytes
samples_8 bytes out long each =
    samples_by 8 bytes out (omega arith) (omega (arith, long)) (λ k h.
    each k h ∙ ap (λ (p : List ℕ). up 8 (stored 8 p)) (sym (slice_at bytes k 1 k (omega arith) ∙ front_1 bytes k (omega (arith, h, long)))))

pub samples_16 : (bytes : List ℕ) (out : List ℤ) → length bytes ≡ length out * 2
    → ((k : ℕ) → k < length out → get_or out k (pos 0) ≡ up 16 (stored 16 (get_or bytes (2 * k) 0 ∷ get_or bytes (2 * k + 1) 0 ∷ [])))
    → out ≡ samples_of 16 bytes
samples_16 bytes out long each =
    samples_by 16 bytes out (omega arith) (omega (arith, long)) (λ k h.
    each k h ∙ ap (λ (p : List ℕ). up 16 (stored 16 p)) (sym (slice_at bytes k 2 (2 * k) (omega arith) ∙ front_2 bytes (2 * k) (omega (arith, h, long)))))

pub samples_24 : (bytes : List ℕ) (out : List ℤ) → length bytes ≡ length out * 3
    → ((k : ℕ) → k < length out → get_or out k (pos 0) ≡ up 24 (stored 24 (get_or bytes (3 * k) 0 ∷ get_or bytes (3 * k + 1) 0 ∷ get_or bytes (3 * k + 2) 0 ∷ [])))
    → out ≡ samples_of 24 bytes
samples_24 bytes out long each =
    samples_by 24 bytes out (omega arith) (omega (arith, long)) (λ k h.
    each k h ∙ ap (λ (p : List ℕ). up 24 (stored 24 p)) (sym (slice_at bytes k 3 (3 * k) (omega arith) ∙ front_3 bytes (3 * k) (omega (arith, h, long)))))

pub samples_32 : (bytes : List ℕ) (out : List ℤ) → length bytes ≡ length out * 4
    → ((k : ℕ) → k < length out → get_or out k (pos 0) ≡ up 32 (stored 32 (get_or bytes (4 * k) 0 ∷ get_or bytes (4 * k + 1) 0 ∷ get_or bytes (4 * k + 2) 0 ∷ get_or bytes (4 * k + 3) 0 ∷ [])))
    → out ≡ samples_of 32 bytes
samples_32 bytes out long each =
    samples_by 32 bytes out (omega arith) (omega (arith, long)) (λ k h.
    each k h ∙ ap (λ (p : List ℕ). up 32 (stored 32 p)) (sym (slice_at bytes k 4 (4 * k) (omega arith) ∙ front_4 bytes (4 * k) (omega (arith, h, long)))))
