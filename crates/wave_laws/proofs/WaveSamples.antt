-- What is stored of samples is read as they were, but for the bits that their width leaves out.
use Rattle.std.proofs.Common.{◌≡◌, ℕ, zero, suc, ◌+◌, ◌-◌, ◌*◌, ◌/◌, ◌%◌, ◌^◌, ◌<◌, ◌≤◌, true, ◌||◌, List, [], ◌∷◌, ◌++◌, length, take, drop, map, get_or, refl, sym, ap, subst, ◌∙◌, arith, ℤ, pos, negsuc, ◌+ℤ◌, ⊎_elim, length-append, length-take-le}
use Rattle.std.specs.Prelude.{slice_range, All, flat_map, nat_abs, if◌then◌else◌, ◌==◌}
use Rattle.std.specs.Int.{bytes_low_first, w32}
use Rattle.std.specs.Int.RustNames.{FitsSigned}
use Rattle.std.proofs.lemmas.List.{length-map, take_at, drop_at, ext_get_or, get_or-map, get_or_at, get_or_append_left, get_or-append_right, drop-drop, take-append-drop, drop_more}
use Rattle.std.proofs.lemmas.List.Elements.{All-head, All-tail, All-weaker}
use Rattle.std.proofs.lemmas.List.Concat.{flat_map-append}
use Rattle.std.proofs.lemmas.Int.{ints}
use Rattle.std.proofs.lemmas.Nat.{div-mul-add, div-add-mod', mod_below, row_fits}
use Rattle.std.proofs.lemmas.Bool.{cases_lt, or_cases, eqb-true, lt-ltb, le-ltb}
use Rattle.wave_laws.proofs.WaveFormats.{slice_front}
use Rattle.session_model.specs.Samples.{below, up, down, width, number_of, signed, unsigned, stored, storing, samples_of, bytes_of}
use Rattle.session_model.specs.WaveFiles.{is_width}

-- the bytes of a number
pub length-bytes_low_first : (i k n : ℕ) → length (bytes_low_first i k n) ≡ k
length-bytes_low_first i zero n = refl
length-bytes_low_first i (suc k) n = ap suc (length-bytes_low_first (suc i) k n)

pub number_of_1 : (n : ℕ) → n < 2 ^ 8 → number_of (bytes_low_first 0 1 n) ≡ n
number_of_1 n h = omega arith

pub number_of_2 : (n : ℕ) → n < 2 ^ 16 → number_of (bytes_low_first 0 2 n) ≡ n
number_of_2 n h = omega arith

pub number_of_3 : (n : ℕ) → n < 2 ^ 24 → number_of (bytes_low_first 0 3 n) ≡ n
number_of_3 n h = omega arith

pub number_of_4 : (n : ℕ) → n < 2 ^ 32 → number_of (bytes_low_first 0 4 n) ≡ n
number_of_4 n h = omega arith

-- the numbers below n
pub length-below : (n : ℕ) → length (below n) ≡ n
length-below zero = refl
length-below (suc n) = omega (arith, length-append (below n) (n ∷ []), length-below n)

pub get_or-below : (n i d : ℕ) → i < n → get_or (below n) i d ≡ i
get_or-below zero i d h = absurd (omega arith)
get_or-below (suc n) i d h =
    ⊎_elim (λ (inside : i < n). rw (get_or_append_left (below n) (n ∷ []) d i (omega (arith, inside, length-below n))) (get_or-below n i d inside))
    (λ (past : n ≤ i).
    let e : i ≡ n = omega arith in
    get_or_at (below n) n [] d i (length-below n ∙ sym e) ∙ sym e)
    (cases_lt i n)

-- pieces of one width, one after another
length_pieces : {X : Type 0} (piece : X → List ℕ) (w : ℕ) (xs : List X) → ((x : X) → length (piece x) ≡ w) → length (flat_map piece xs) ≡ length xs * w
length_pieces piece w [] all = omega arith
length_pieces piece w (x ∷ xs) all = omega (arith, length-append (piece x) (flat_map piece xs), all x, length_pieces piece w xs all)

pub slice_at : (p q r : List ℕ) (i w : ℕ) → length p ≡ i → length q ≡ w → slice_range (p ++ (q ++ r)) i (i + w) ≡ q
slice_at p q r i w e f = rw (drop_at p (q ++ r) i e) (take_at q r (i + w - i) (omega (arith, f)))

piece_at : (piece : ℤ → List ℕ) (w : ℕ) (xs : List ℤ) (i : ℕ) (d : ℤ) → ((x : ℤ) → length (piece x) ≡ w) → i < length xs → slice_range (flat_map piece xs) (i * w) (i * w + w) ≡ piece (get_or xs i d)
piece_at piece w xs i d all h =
    let split : flat_map piece xs ≡ flat_map piece (take i xs) ++ (piece (get_or xs i d) ++ flat_map piece (drop (i + 1) xs)) =
    ap (flat_map piece) (sym (take-append-drop i xs))
    ∙ flat_map-append piece (take i xs) (drop i xs)
    ∙ ap (λ (rest : List ℤ). flat_map piece (take i xs) ++ flat_map piece rest) (drop_more xs i d h) in
    let front : length (flat_map piece (take i xs)) ≡ i * w =
    length_pieces piece w (take i xs) all ∙ ap (λ (n : ℕ). n * w) (length-take-le i xs (omega (arith, h))) in
    rw split (slice_at (flat_map piece (take i xs)) (piece (get_or xs i d)) (flat_map piece (drop (i + 1) xs)) (i * w) w front (all (get_or xs i d)))

-- what is read of pieces, one after another
read_pieces : (read : List ℕ → ℤ) (piece : ℤ → List ℕ) (w : ℕ) (xs : List ℤ) → 0 < w → ((x : ℤ) → length (piece x) ≡ w)
    → map (λ i. read (slice_range (flat_map piece xs) (i * w) (i * w + w))) (below (length (flat_map piece xs) / w)) ≡ map (λ x. read (piece x)) xs
read_pieces read piece w xs some all =
    let count : length (flat_map piece xs) / w ≡ length xs =
    ap (λ (n : ℕ). n / w) (length_pieces piece w xs all ∙ omega arith) ∙ div-mul-add (length xs) w 0 some in
    let at : ℕ → ℤ = λ i. read (slice_range (flat_map piece xs) (i * w) (i * w + w)) in
    let told : ℤ → ℤ = λ x. read (piece x) in
    let one : length (map at (below (length (flat_map piece xs) / w))) ≡ length xs = length-map (below (length (flat_map piece xs) / w)) at ∙ length-below (length (flat_map piece xs) / w) ∙ count in
    ext_get_or (pos 0) (map at (below (length (flat_map piece xs) / w))) (map told xs) (one ∙ sym (length-map xs told)) (λ i h.
    let inside : i < length xs = omega (arith, h, one) in
    let short : i < length (flat_map piece xs) / w = omega (arith, inside, count) in
    get_or-map at (below (length (flat_map piece xs) / w)) i 0 (pos 0) (omega (arith, short, length-below (length (flat_map piece xs) / w)))
    ∙ ap at (get_or-below (length (flat_map piece xs) / w) i 0 short)
    ∙ ap read (piece_at piece w xs i (pos 0) all inside)
    ∙ sym (get_or-map told xs i (pos 0) (pos 0) inside))

-- a number that fits is stored and read as it is
back_8 : (a : ℕ) → a < 128 → (stored 8 (storing 8 (pos a)) ≡ pos a) × (stored 8 (storing 8 (negsuc a)) ≡ negsuc a)
back_8 a h = (omega (arith, ints), omega (arith, ints))

unsigned_16 : (a : ℕ) → a < 2 ^ 15 → (unsigned 16 (pos a) ≡ a) × (unsigned 16 (negsuc a) ≡ 2 ^ 16 - suc a)
unsigned_16 a h = (omega (arith, ints), omega (arith, ints))

signed_16 : (a : ℕ) → a < 2 ^ 15 → (signed 16 a ≡ pos a) × (signed 16 (2 ^ 16 - suc a) ≡ negsuc a)
signed_16 a h =
    let high : 2 ^ 15 ≤ 2 ^ 16 - suc a = omega arith in
    (rw (lt-ltb a (2 ^ 15) h) refl, rw (le-ltb (2 ^ 16 - suc a) (2 ^ 15) high) (omega (arith, ints)))

back_16 : (a : ℕ) → a < 2 ^ 15 → (stored 16 (storing 16 (pos a)) ≡ pos a) × (stored 16 (storing 16 (negsuc a)) ≡ negsuc a)
back_16 a h =
    let u = unsigned_16 a h in
    let low : unsigned 16 (pos a) < 2 ^ 16 = omega (arith, u.0) in
    let high : unsigned 16 (negsuc a) < 2 ^ 16 = omega (arith, u.1) in (
      ap (signed 16) (number_of_2 (unsigned 16 (pos a)) low ∙ u.0) ∙ (signed_16 a h).0,
      ap (signed 16) (number_of_2 (unsigned 16 (negsuc a)) high ∙ u.1) ∙ (signed_16 a h).1,
    )

unsigned_24 : (a : ℕ) → a < 2 ^ 23 → (unsigned 24 (pos a) ≡ a) × (unsigned 24 (negsuc a) ≡ 2 ^ 24 - suc a)
unsigned_24 a h = (omega (arith, ints), omega (arith, ints))

signed_24 : (a : ℕ) → a < 2 ^ 23 → (signed 24 a ≡ pos a) × (signed 24 (2 ^ 24 - suc a) ≡ negsuc a)
signed_24 a h =
    let high : 2 ^ 23 ≤ 2 ^ 24 - suc a = omega arith in
    (rw (lt-ltb a (2 ^ 23) h) refl, rw (le-ltb (2 ^ 24 - suc a) (2 ^ 23) high) (omega (arith, ints)))

back_24 : (a : ℕ) → a < 2 ^ 23 → (stored 24 (storing 24 (pos a)) ≡ pos a) × (stored 24 (storing 24 (negsuc a)) ≡ negsuc a)
back_24 a h =
    let u = unsigned_24 a h in
    let low : unsigned 24 (pos a) < 2 ^ 24 = omega (arith, u.0) in
    let high : unsigned 24 (negsuc a) < 2 ^ 24 = omega (arith, u.1) in (
      ap (signed 24) (number_of_3 (unsigned 24 (pos a)) low ∙ u.0) ∙ (signed_24 a h).0,
      ap (signed 24) (number_of_3 (unsigned 24 (negsuc a)) high ∙ u.1) ∙ (signed_24 a h).1,
    )

unsigned_32 : (a : ℕ) → a < 2 ^ 31 → (unsigned 32 (pos a) ≡ a) × (unsigned 32 (negsuc a) ≡ 2 ^ 32 - suc a)
unsigned_32 a h = (omega (arith, ints), omega (arith, ints))

signed_32 : (a : ℕ) → a < 2 ^ 31 → (signed 32 a ≡ pos a) × (signed 32 (2 ^ 32 - suc a) ≡ negsuc a)
signed_32 a h =
    let high : 2 ^ 31 ≤ 2 ^ 32 - suc a = omega arith in
    (rw (lt-ltb a (2 ^ 31) h) refl, rw (le-ltb (2 ^ 32 - suc a) (2 ^ 31) high) (omega (arith, ints)))

back_32 : (a : ℕ) → a < 2 ^ 31 → (stored 32 (storing 32 (pos a)) ≡ pos a) × (stored 32 (storing 32 (negsuc a)) ≡ negsuc a)
back_32 a h =
    let u = unsigned_32 a h in
    let low : unsigned 32 (pos a) < 2 ^ 32 = omega (arith, u.0) in
    let high : unsigned 32 (negsuc a) < 2 ^ 32 = omega (arith, u.1) in (
      ap (signed 32) (number_of_4 (unsigned 32 (pos a)) low ∙ u.0) ∙ (signed_32 a h).0,
      ap (signed 32) (number_of_4 (unsigned 32 (negsuc a)) high ∙ u.1) ∙ (signed_32 a h).1,
    )

back_at_8 : (x : ℤ) → FitsSigned w32 x → stored 8 (storing 8 (down 8 x)) ≡ down 8 x
back_at_8 (pos a) fits = (back_8 (a / 2 ^ 24) (small a fits.sfits)).0
  where
    small : (a : ℕ) → a < 2 ^ 31 → a / 2 ^ 24 < 2 ^ 7
    small a h = omega arith
back_at_8 (negsuc a) fits = (back_8 (a / 2 ^ 24) (small a fits.sfits)).1
  where
    small : (a : ℕ) → a < 2 ^ 31 → a / 2 ^ 24 < 2 ^ 7
    small a h = omega arith

back_at_16 : (x : ℤ) → FitsSigned w32 x → stored 16 (storing 16 (down 16 x)) ≡ down 16 x
back_at_16 (pos a) fits = (back_16 (a / 2 ^ 16) (small a fits.sfits)).0
  where
    small : (a : ℕ) → a < 2 ^ 31 → a / 2 ^ 16 < 2 ^ 15
    small a h = omega arith
back_at_16 (negsuc a) fits = (back_16 (a / 2 ^ 16) (small a fits.sfits)).1
  where
    small : (a : ℕ) → a < 2 ^ 31 → a / 2 ^ 16 < 2 ^ 15
    small a h = omega arith

back_at_24 : (x : ℤ) → FitsSigned w32 x → stored 24 (storing 24 (down 24 x)) ≡ down 24 x
back_at_24 (pos a) fits = (back_24 (a / 2 ^ 8) (small a fits.sfits)).0
  where
    small : (a : ℕ) → a < 2 ^ 31 → a / 2 ^ 8 < 2 ^ 23
    small a h = omega arith
back_at_24 (negsuc a) fits = (back_24 (a / 2 ^ 8) (small a fits.sfits)).1
  where
    small : (a : ℕ) → a < 2 ^ 31 → a / 2 ^ 8 < 2 ^ 23
    small a h = omega arith

back_at_32 : (x : ℤ) → FitsSigned w32 x → stored 32 (storing 32 (down 32 x)) ≡ down 32 x
back_at_32 (pos a) fits = (back_32 (a / 2 ^ 0) (small a fits.sfits)).0
  where
    small : (a : ℕ) → a < 2 ^ 31 → a / 2 ^ 0 < 2 ^ 31
    small a h = omega arith
back_at_32 (negsuc a) fits = (back_32 (a / 2 ^ 0) (small a fits.sfits)).1
  where
    small : (a : ℕ) → a < 2 ^ 31 → a / 2 ^ 0 < 2 ^ 31
    small a h = omega arith

-- what holds of the four widths holds of each width
pub by_width : (P : ℕ → Type 0) (bits : ℕ) → is_width bits ≡ true → P 8 → P 16 → P 24 → P 32 → P bits
by_width P bits wide p8 p16 p24 p32 =
    ⊎_elim (λ (h : (bits == 8 || bits == 16 || bits == 24) ≡ true).
    ⊎_elim (λ (k : (bits == 8 || bits == 16) ≡ true).
    ⊎_elim (λ (l : (bits == 8) ≡ true). subst P (sym (eqb-true bits 8 l)) p8)
    (λ (l : (bits == 16) ≡ true). subst P (sym (eqb-true bits 16 l)) p16)
    (or_cases (bits == 8) (bits == 16) k))
    (λ (k : (bits == 24) ≡ true). subst P (sym (eqb-true bits 24 k)) p24)
    (or_cases (bits == 8 || bits == 16) (bits == 24) h))
    (λ (h : (bits == 32) ≡ true). subst P (sym (eqb-true bits 32 h)) p32)
    (or_cases (bits == 8 || bits == 16 || bits == 24) (bits == 32) wide)

-- a sample of 32 bits, as it is stored and read
pub stored-storing : (bits : ℕ) (x : ℤ) → is_width bits ≡ true → FitsSigned w32 x → stored bits (storing bits (down bits x)) ≡ down bits x
stored-storing bits x wide fits =
    by_width (λ b. stored b (storing b (down b x)) ≡ down b x) bits wide (back_at_8 x fits) (back_at_16 x fits) (back_at_24 x fits) (back_at_32 x fits)

pub width_some : (bits : ℕ) → is_width bits ≡ true → 0 < width bits
width_some bits wide = by_width (λ b. 0 < width b) bits wide (omega arith) (omega arith) (omega arith) (omega arith)

pub length-storing : (bits : ℕ) (s : ℤ) → length (storing bits s) ≡ width bits
length-storing bits s = length-bytes_low_first 0 (width bits) (if bits == 8 then nat_abs (s +ℤ pos 128) else unsigned bits s)

map-same : (f g : ℤ → ℤ) (xs : List ℤ) → All (λ x. f x ≡ g x) xs → map f xs ≡ map g xs
map-same f g [] all = refl
map-same f g (x ∷ xs) all = cc (All-head (λ y. f y ≡ g y) x xs all, map-same f g xs (All-tail (λ y. f y ≡ g y) x xs all))

-- the bytes of samples
pub length-bytes_of : (bits : ℕ) (xs : List ℤ) → length (bytes_of bits xs) ≡ length xs * width bits
length-bytes_of bits xs = length_pieces (λ x. storing bits (down bits x)) (width bits) xs (λ x. length-storing bits (down bits x))

-- reading what was written of samples of 32 bits gives each but for the bits that the width leaves out
pub samples_of-bytes_of : (bits : ℕ) (xs : List ℤ) → is_width bits ≡ true → All (FitsSigned w32) xs → samples_of bits (bytes_of bits xs) ≡ map (λ x. up bits (down bits x)) xs
samples_of-bytes_of bits xs wide fit =
    read_pieces (λ bytes. up bits (stored bits bytes)) (λ x. storing bits (down bits x)) (width bits) xs (width_some bits wide) (λ x. length-storing bits (down bits x))
    ∙ map-same (λ x. up bits (stored bits (storing bits (down bits x)))) (λ x. up bits (down bits x)) xs
    (All-weaker (FitsSigned w32) (λ x. up bits (stored bits (storing bits (down bits x))) ≡ up bits (down bits x)) (λ x h. ap (up bits) (stored-storing bits x wide h)) xs fit)

-- ---- samples by their places, and piece by piece

pub length-samples_of : (bits : ℕ) (bytes : List ℕ) → length (samples_of bits bytes) ≡ length bytes / width bits
length-samples_of bits bytes = length-map (below (length bytes / width bits)) _ ∙ length-below (length bytes / width bits)

pub get_or-samples_of : (bits : ℕ) (bytes : List ℕ) (i : ℕ) (d : ℤ) → i < length bytes / width bits
    → get_or (samples_of bits bytes) i d ≡ up bits (stored bits (slice_range bytes (i * width bits) (i * width bits + width bits)))
get_or-samples_of bits bytes i d h =
    let at : ℕ → ℤ = λ k. up bits (stored bits (slice_range bytes (k * width bits) (k * width bits + width bits))) in
    get_or-map at (below (length bytes / width bits)) i 0 d (omega (arith, h, length-below (length bytes / width bits)))
    ∙ ap at (get_or-below (length bytes / width bits) i 0 h)

-- whole samples, and what follows them
pub samples_of-append : (bits n : ℕ) (one two : List ℕ) → 0 < width bits → length one ≡ n * width bits → samples_of bits (one ++ two) ≡ samples_of bits one ++ samples_of bits two
samples_of-append bits n one two some e =
    ext_get_or (pos 0) (samples_of bits (one ++ two)) (samples_of bits one ++ samples_of bits two) (long ∙ sym (length-append (samples_of bits one) (samples_of bits two) ∙ omega (arith, first, second))) (λ i h.
    let inside : i < n + length two / w = omega (arith, h, long) in
    get_or-samples_of bits (one ++ two) i (pos 0) (omega (arith, inside, count))
    ∙ ⊎_elim (λ (front : i < n).
    ap read (slice_front one two (i * w) w (omega (arith, e, row_fits i w n w front (omega arith))))
    ∙ sym (get_or_append_left (samples_of bits one) (samples_of bits two) (pos 0) i (omega (arith, first, front)) ∙ get_or-samples_of bits one i (pos 0) (omega (arith, front, before))))
    (λ (back : n ≤ i).
    let j = i - n in
    let place : i * w ≡ n * w + j * w = ap (λ (k : ℕ). k * w) (back_again i n back) ∙ omega arith in
    ap (λ (k : ℕ). read (slice_range (one ++ two) k (k + w))) place
    ∙ ap read (slice_behind one two (n * w) (j * w) w e)
    ∙ sym (get_or-append_right (samples_of bits one) (samples_of bits two) n i (pos 0) first back ∙ get_or-samples_of bits two j (pos 0) (omega (arith, inside, back))))
    (cases_lt i n))
  where
    w : ℕ
    w = width bits

    read : List ℕ → ℤ
    read bytes = up bits (stored bits bytes)

    before : length one / w ≡ n
    before = ap (λ (k : ℕ). k / w) (e ∙ omega arith) ∙ div-mul-add n w 0 some

    count : length (one ++ two) / w ≡ n + length two / w
    count =
        ap (λ (k : ℕ). k / w) (length-append one two ∙ omega (arith, e, div-add-mod' (length two) w))
        ∙ div-mul-add (n + length two / w) w (length two % w) (mod_below (length two) w some)

    first : length (samples_of bits one) ≡ n
    first = length-samples_of bits one ∙ before

    second : length (samples_of bits two) ≡ length two / w
    second = length-samples_of bits two

    long : length (samples_of bits (one ++ two)) ≡ n + length two / w
    long = length-samples_of bits (one ++ two) ∙ count

    back_again : (i n : ℕ) → n ≤ i → i ≡ n + (i - n)
    back_again i n h = omega arith

    slice_behind : (one two : List ℕ) (k j w : ℕ) → length one ≡ k → slice_range (one ++ two) (k + j) (k + j + w) ≡ slice_range two j (j + w)
    slice_behind one two k j w e =
        let same : k + j + w - (k + j) ≡ j + w - j = omega arith in
        ap (λ (m : ℕ). take m (drop (k + j) (one ++ two))) same
        ∙ ap (take (j + w - j)) (sym (drop-drop j k (one ++ two)) ∙ ap (drop j) (drop_at one two k e))
