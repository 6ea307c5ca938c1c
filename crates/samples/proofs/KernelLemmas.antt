-- Blocks of samples on vectors, where each lane is read at its place.
use Rattle.std.proofs.Common.{◌≡◌, ℕ, zero, suc, ◌+◌, ◌-◌, ◌*◌, ◌^◌, ◌<◌, ◌≤◌, Bool, true, false, ltb, List, [], ◌∷◌, ◌++◌, length, take, drop, map, replicate, get_or, get_or-drop, ℤ, pos, ◌*ℤ◌, refl, sym, ap, subst, ◌∙◌, arith, Fits, to_z, w8, w32}
use Rattle.std.proofs.lemmas.Int.{ints}
use Rattle.std.proofs.lemmas.Bool.{ltb-true, ltb-false}
use lib.Lanes.{Each1, chunk, put_chunk, pick_l, number_l, digits_l}
use Rattle.std.proofs.lemmas.List.{get_or_append_left, get_or-append_right, get_or-map}
use Rattle.std.proofs.lemmas.Simd.{get_or_wider, below_from_Fits, chunk-fits, get_or-chunk, length-chunk, get_or-put_chunk_at, get_or-put_chunk_below}
use Rattle.wave_laws.specs.session_model.specs.Samples.{up, stored, signed}
use Rattle.samples.proofs.ScalingLemmas.{front_4}

-- ---- sixteen bytes of a list, and zeros behind them

pub byte_lane : (xs zs : List ℕ) (at k i : ℕ) → at + 16 ≤ length xs → k < 16 → i ≡ at + k → get_or (take 16 (drop at xs) ++ zs) k 0 ≡ get_or xs i 0
byte_lane xs zs at k i long h e =
    get_or_append_left (chunk at 16 xs) zs 0 k (omega (arith, length-chunk at 16 xs long))
    ∙ get_or-chunk at 16 xs k 0 h
    ∙ ap (λ (n : ℕ). get_or xs n 0) (sym e)

pub zero_lane : (xs zs : List ℕ) (at : ℕ) → at + 16 ≤ length xs → get_or (take 16 (drop at xs) ++ 0 ∷ zs) 16 0 ≡ 0
zero_lane xs zs at long = get_or-append_right (chunk at 16 xs) (0 ∷ zs) 16 16 0 (length-chunk at 16 xs long) (omega arith)

pub below_at : (xs : List ℕ) → ((k : ℕ) → Fits w8 (get_or xs k 0)) → (k : ℕ) → get_or xs k 0 < 256
below_at xs fits k = (fits k).fits

-- ---- a word of four bytes is a sample

scaled_24 : (n : ℕ) → n < 2 ^ 24 → to_z w32 (256 * n) ≡ signed 24 n *ℤ pos (2 ^ 8)
scaled_24 n h = grind (arith, ints)

word_24 : (z a b c : ℕ) (k l m : ℕ) → z ≡ 0 → a ≡ k → b ≡ l → c ≡ m → k < 256 → l < 256 → m < 256
    → to_z w32 (z + 256 * (a + 256 * (b + 256 * (c + 256 * 0)))) ≡ up 24 (stored 24 (k ∷ l ∷ m ∷ []))
word_24 z a b c k l m ez ea eb ec fk fl fm =
    let n : ℕ = k + 256 * (l + 256 * (m + 256 * 0)) in
    let e : z + 256 * (a + 256 * (b + 256 * (c + 256 * 0))) ≡ 256 * n = omega arith in
    ap (to_z w32) e ∙ scaled_24 n (omega arith)

-- ---- four samples of 24 bits

abbrev pub lanes : List ℕ → ℕ → List ℕ
lanes xs at = take 16 (drop at xs) ++ 0 ∷ 0 ∷ 0 ∷ 0 ∷ 0 ∷ 0 ∷ 0 ∷ 0 ∷ 0 ∷ 0 ∷ 0 ∷ 0 ∷ 0 ∷ 0 ∷ 0 ∷ 0 ∷ []

pub under_append : (n : ℕ) (xs ys : List ℕ) → ((k : ℕ) → get_or xs k 0 < n) → ((k : ℕ) → get_or ys k 0 < n) → (k : ℕ) → get_or (xs ++ ys) k 0 < n
under_append n [] ys a b k = b k
under_append n (x ∷ xs) ys a b zero = a zero
under_append n (x ∷ xs) ys a b (suc k) = under_append n xs ys (λ j. a (suc j)) b k

pub under_take : (n m : ℕ) (xs : List ℕ) → ((k : ℕ) → get_or xs k 0 < n) → (k : ℕ) → get_or (take m xs) k 0 < n
under_take n zero xs a k = omega (arith, a k)
under_take n (suc m) [] a k = a k
under_take n (suc m) (x ∷ xs) a zero = a zero
under_take n (suc m) (x ∷ xs) a (suc k) = under_take n m xs (λ j. a (suc j)) k

pub under_zeros : (m k : ℕ) → get_or (replicate m 0) k 0 < 256
under_zeros zero k = omega arith
under_zeros (suc m) zero = omega arith
under_zeros (suc m) (suc k) = under_zeros m k

each_picked : (P : ℕ → Type 0) (xs : List ℕ) → ((k : ℕ) → P (get_or xs k 0)) → (ks : List ℕ) → Each1 P (pick_l 0 xs ks)
each_picked P xs all [] = tt
each_picked P xs all (k ∷ ks) = (all k, each_picked P xs all ks)

pub lanes_below : (xs : List ℕ) (at : ℕ) → ((k : ℕ) → Fits w8 (get_or xs k 0)) → (k : ℕ) → get_or (lanes xs at) k 0 < 256
lanes_below xs at fits =
    under_append 256 (take 16 (drop at xs)) (replicate 16 0) (under_take 256 16 (drop at xs) (λ k. omega (arith, get_or-drop at xs k 0, below_at xs fits (at + k)))) (under_zeros 16)

abbrev pub spread_24 : List ℕ → ℕ → List ℕ
spread_24 xs at = pick_l 0 (lanes xs at) (16 ∷ 0 ∷ 1 ∷ 2 ∷ 16 ∷ 3 ∷ 4 ∷ 5 ∷ 16 ∷ 6 ∷ 7 ∷ 8 ∷ 16 ∷ 9 ∷ 10 ∷ 11 ∷ [])

abbrev pub words_of : List ℕ → List ℤ
words_of bytes = map (to_z w32) (digits_l 4294967296 4 (number_l 256 bytes))

pub four_24 : (xs : List ℕ) (at : ℕ) → at + 16 ≤ length xs → ((k : ℕ) → Fits w8 (get_or xs k 0)) → (j i : ℕ) → i ≡ at + 3 * j → j < 4
    → get_or (words_of (spread_24 xs at)) j (pos 0) ≡ up 24 (stored 24 (get_or xs i 0 ∷ get_or xs (i + 1) 0 ∷ get_or xs (i + 2) 0 ∷ []))
four_24 xs at long fits zero i e h =
    ap (to_z w32) (get_or_wider 256 4 4294967296 4 (spread_24 xs at) 0 refl (each_picked (λ x. x < 256) (lanes xs at) (lanes_below xs at fits) (16 ∷ 0 ∷ 1 ∷ 2 ∷ 16 ∷ 3 ∷ 4 ∷ 5 ∷ 16 ∷ 6 ∷ 7 ∷ 8 ∷ 16 ∷ 9 ∷ 10 ∷ 11 ∷ [])) h)
    ∙ word_24 (get_or (lanes xs at) 16 0) (get_or (lanes xs at) 0 0) (get_or (lanes xs at) 1 0) (get_or (lanes xs at) 2 0) (get_or xs i 0) (get_or xs (i + 1) 0) (get_or xs (i + 2) 0)
    (zero_lane xs (0 ∷ 0 ∷ 0 ∷ 0 ∷ 0 ∷ 0 ∷ 0 ∷ 0 ∷ 0 ∷ 0 ∷ 0 ∷ 0 ∷ 0 ∷ 0 ∷ 0 ∷ []) at long)
    (byte_lane xs (0 ∷ 0 ∷ 0 ∷ 0 ∷ 0 ∷ 0 ∷ 0 ∷ 0 ∷ 0 ∷ 0 ∷ 0 ∷ 0 ∷ 0 ∷ 0 ∷ 0 ∷ 0 ∷ []) at 0 (i) long (omega arith) (omega arith))
    (byte_lane xs (0 ∷ 0 ∷ 0 ∷ 0 ∷ 0 ∷ 0 ∷ 0 ∷ 0 ∷ 0 ∷ 0 ∷ 0 ∷ 0 ∷ 0 ∷ 0 ∷ 0 ∷ 0 ∷ []) at 1 (i + 1) long (omega arith) (omega arith))
    (byte_lane xs (0 ∷ 0 ∷ 0 ∷ 0 ∷ 0 ∷ 0 ∷ 0 ∷ 0 ∷ 0 ∷ 0 ∷ 0 ∷ 0 ∷ 0 ∷ 0 ∷ 0 ∷ 0 ∷ []) at 2 (i + 2) long (omega arith) (omega arith))
    (below_at xs fits i) (below_at xs fits (i + 1)) (below_at xs fits (i + 2))
four_24 xs at long fits (suc zero) i e h =
    ap (to_z w32) (get_or_wider 256 4 4294967296 4 (spread_24 xs at) 1 refl (each_picked (λ x. x < 256) (lanes xs at) (lanes_below xs at fits) (16 ∷ 0 ∷ 1 ∷ 2 ∷ 16 ∷ 3 ∷ 4 ∷ 5 ∷ 16 ∷ 6 ∷ 7 ∷ 8 ∷ 16 ∷ 9 ∷ 10 ∷ 11 ∷ [])) h)
    ∙ word_24 (get_or (lanes xs at) 16 0) (get_or (lanes xs at) 3 0) (get_or (lanes xs at) 4 0) (get_or (lanes xs at) 5 0) (get_or xs i 0) (get_or xs (i + 1) 0) (get_or xs (i + 2) 0)
    (zero_lane xs (0 ∷ 0 ∷ 0 ∷ 0 ∷ 0 ∷ 0 ∷ 0 ∷ 0 ∷ 0 ∷ 0 ∷ 0 ∷ 0 ∷ 0 ∷ 0 ∷ 0 ∷ []) at long)
    (byte_lane xs (0 ∷ 0 ∷ 0 ∷ 0 ∷ 0 ∷ 0 ∷ 0 ∷ 0 ∷ 0 ∷ 0 ∷ 0 ∷ 0 ∷ 0 ∷ 0 ∷ 0 ∷ 0 ∷ []) at 3 (i) long (omega arith) (omega arith))
    (byte_lane xs (0 ∷ 0 ∷ 0 ∷ 0 ∷ 0 ∷ 0 ∷ 0 ∷ 0 ∷ 0 ∷ 0 ∷ 0 ∷ 0 ∷ 0 ∷ 0 ∷ 0 ∷ 0 ∷ []) at 4 (i + 1) long (omega arith) (omega arith))
    (byte_lane xs (0 ∷ 0 ∷ 0 ∷ 0 ∷ 0 ∷ 0 ∷ 0 ∷ 0 ∷ 0 ∷ 0 ∷ 0 ∷ 0 ∷ 0 ∷ 0 ∷ 0 ∷ 0 ∷ []) at 5 (i + 2) long (omega arith) (omega arith))
    (below_at xs fits i) (below_at xs fits (i + 1)) (below_at xs fits (i + 2))
four_24 xs at long fits (suc (suc zero)) i e h =
    ap (to_z w32) (get_or_wider 256 4 4294967296 4 (spread_24 xs at) 2 refl (each_picked (λ x. x < 256) (lanes xs at) (lanes_below xs at fits) (16 ∷ 0 ∷ 1 ∷ 2 ∷ 16 ∷ 3 ∷ 4 ∷ 5 ∷ 16 ∷ 6 ∷ 7 ∷ 8 ∷ 16 ∷ 9 ∷ 10 ∷ 11 ∷ [])) h)
    ∙ word_24 (get_or (lanes xs at) 16 0) (get_or (lanes xs at) 6 0) (get_or (lanes xs at) 7 0) (get_or (lanes xs at) 8 0) (get_or xs i 0) (get_or xs (i + 1) 0) (get_or xs (i + 2) 0)
    (zero_lane xs (0 ∷ 0 ∷ 0 ∷ 0 ∷ 0 ∷ 0 ∷ 0 ∷ 0 ∷ 0 ∷ 0 ∷ 0 ∷ 0 ∷ 0 ∷ 0 ∷ 0 ∷ []) at long)
    (byte_lane xs (0 ∷ 0 ∷ 0 ∷ 0 ∷ 0 ∷ 0 ∷ 0 ∷ 0 ∷ 0 ∷ 0 ∷ 0 ∷ 0 ∷ 0 ∷ 0 ∷ 0 ∷ 0 ∷ []) at 6 (i) long (omega arith) (omega arith))
    (byte_lane xs (0 ∷ 0 ∷ 0 ∷ 0 ∷ 0 ∷ 0 ∷ 0 ∷ 0 ∷ 0 ∷ 0 ∷ 0 ∷ 0 ∷ 0 ∷ 0 ∷ 0 ∷ 0 ∷ []) at 7 (i + 1) long (omega arith) (omega arith))
    (byte_lane xs (0 ∷ 0 ∷ 0 ∷ 0 ∷ 0 ∷ 0 ∷ 0 ∷ 0 ∷ 0 ∷ 0 ∷ 0 ∷ 0 ∷ 0 ∷ 0 ∷ 0 ∷ 0 ∷ []) at 8 (i + 2) long (omega arith) (omega arith))
    (below_at xs fits i) (below_at xs fits (i + 1)) (below_at xs fits (i + 2))
four_24 xs at long fits (suc (suc (suc zero))) i e h =
    ap (to_z w32) (get_or_wider 256 4 4294967296 4 (spread_24 xs at) 3 refl (each_picked (λ x. x < 256) (lanes xs at) (lanes_below xs at fits) (16 ∷ 0 ∷ 1 ∷ 2 ∷ 16 ∷ 3 ∷ 4 ∷ 5 ∷ 16 ∷ 6 ∷ 7 ∷ 8 ∷ 16 ∷ 9 ∷ 10 ∷ 11 ∷ [])) h)
    ∙ word_24 (get_or (lanes xs at) 16 0) (get_or (lanes xs at) 9 0) (get_or (lanes xs at) 10 0) (get_or (lanes xs at) 11 0) (get_or xs i 0) (get_or xs (i + 1) 0) (get_or xs (i + 2) 0)
    (zero_lane xs (0 ∷ 0 ∷ 0 ∷ 0 ∷ 0 ∷ 0 ∷ 0 ∷ 0 ∷ 0 ∷ 0 ∷ 0 ∷ 0 ∷ 0 ∷ 0 ∷ 0 ∷ []) at long)
    (byte_lane xs (0 ∷ 0 ∷ 0 ∷ 0 ∷ 0 ∷ 0 ∷ 0 ∷ 0 ∷ 0 ∷ 0 ∷ 0 ∷ 0 ∷ 0 ∷ 0 ∷ 0 ∷ 0 ∷ []) at 9 (i) long (omega arith) (omega arith))
    (byte_lane xs (0 ∷ 0 ∷ 0 ∷ 0 ∷ 0 ∷ 0 ∷ 0 ∷ 0 ∷ 0 ∷ 0 ∷ 0 ∷ 0 ∷ 0 ∷ 0 ∷ 0 ∷ 0 ∷ []) at 10 (i + 1) long (omega arith) (omega arith))
    (byte_lane xs (0 ∷ 0 ∷ 0 ∷ 0 ∷ 0 ∷ 0 ∷ 0 ∷ 0 ∷ 0 ∷ 0 ∷ 0 ∷ 0 ∷ 0 ∷ 0 ∷ 0 ∷ 0 ∷ []) at 11 (i + 2) long (omega arith) (omega arith))
    (below_at xs fits i) (below_at xs fits (i + 1)) (below_at xs fits (i + 2))
four_24 xs at long fits (suc (suc (suc (suc j)))) i e h = absurd (omega arith)

-- ---- four samples of 32 bits

scaled_32 : (n : ℕ) → n < 2 ^ 32 → to_z w32 n ≡ signed 32 n *ℤ pos (2 ^ 0)
scaled_32 n h = grind (arith, ints)

word_32 : (a b c d : ℕ) (i j k l : ℕ) → a ≡ i → b ≡ j → c ≡ k → d ≡ l → i < 256 → j < 256 → k < 256 → l < 256
    → to_z w32 (number_l 256 (a ∷ b ∷ c ∷ d ∷ [])) ≡ up 32 (stored 32 (i ∷ j ∷ k ∷ l ∷ []))
word_32 a b c d i j k l ea eb ec ed fi fj fk fl =
    let n : ℕ = i + 256 * (j + 256 * (k + 256 * (l + 256 * 0))) in
    let e : a + 256 * (b + 256 * (c + 256 * (d + 256 * 0))) ≡ n = omega arith in
    ap (to_z w32) e ∙ scaled_32 n (omega arith)

pub four_32 : (xs : List ℕ) (at : ℕ) → at + 16 ≤ length xs → ((k : ℕ) → Fits w8 (get_or xs k 0)) → (j i : ℕ) → i ≡ at + 4 * j → j < 4
    → get_or (words_of (chunk at 16 xs)) j (pos 0) ≡ up 32 (stored 32 (get_or xs i 0 ∷ get_or xs (i + 1) 0 ∷ get_or xs (i + 2) 0 ∷ get_or xs (i + 3) 0 ∷ []))
four_32 xs at long fits j i e h =
    let ys : List ℕ = chunk at 16 xs in
    let here : (m : ℕ) → m < 16 → get_or ys m 0 ≡ get_or xs (at + m) 0 = λ m. get_or-chunk at 16 xs m 0 in
    let lane : (m n : ℕ) → m < 16 → n ≡ at + m → get_or ys m 0 ≡ get_or xs n 0 = λ m n lt is. here m lt ∙ ap (λ (q : ℕ). get_or xs q 0) (sym is) in
    get_or-map (to_z w32) (digits_l 4294967296 4 (number_l 256 ys)) j 0 (pos 0) h
    ∙ ap (to_z w32) (get_or_wider 256 4 4294967296 4 ys j refl (below_from_Fits w8 ys (chunk-fits w8 at 16 xs fits)) h ∙ ap (number_l 256) (front_4 ys (4 * j) (omega (arith, length-chunk at 16 xs long))))
    ∙ word_32 (get_or ys (4 * j) 0) (get_or ys (4 * j + 1) 0) (get_or ys (4 * j + 2) 0) (get_or ys (4 * j + 3) 0)
    (get_or xs i 0) (get_or xs (i + 1) 0) (get_or xs (i + 2) 0) (get_or xs (i + 3) 0)
    (lane (4 * j) i (omega arith) (omega arith)) (lane (4 * j + 1) (i + 1) (omega arith) (omega arith))
    (lane (4 * j + 2) (i + 2) (omega arith) (omega arith)) (lane (4 * j + 3) (i + 3) (omega arith) (omega arith))
    (below_at xs fits i) (below_at xs fits (i + 1)) (below_at xs fits (i + 2)) (below_at xs fits (i + 3))

-- ---- a block behind the samples that are done

joined_at : (P : ℕ → ℤ → Type 0) (old block : List ℤ) (place n : ℕ) → length block ≡ n → place + n ≤ length old
    → ((k : ℕ) → k < place → P k (get_or old k (pos 0)))
    → ((j : ℕ) → j < n → P (place + j) (get_or block j (pos 0)))
    → (k : ℕ) → k < place + n → (b : Bool) → ltb k place ≡ b → P k (get_or (put_chunk place old block) k (pos 0))
joined_at P old block place n long room front here k h true e =
    let lt : k < place = ltb-true k place e in
    subst (P k) (sym (get_or-put_chunk_below place old block k (pos 0) lt)) (front k lt)
joined_at P old block place n long room front here k h false e =
    let le : place ≤ k = ltb-false k place e in
    let is : place + (k - place) ≡ k = omega arith in
    subst (λ (i : ℕ). P i (get_or (put_chunk place old block) i (pos 0))) is
    (subst (P (place + (k - place))) (sym (get_or-put_chunk_at place old block (k - place) (pos 0) (omega arith) (omega arith))) (here (k - place) (omega arith)))

pub joined : (P : ℕ → ℤ → Type 0) (old block : List ℤ) (place n : ℕ) → length block ≡ n → place + n ≤ length old
    → ((k : ℕ) → k < place → P k (get_or old k (pos 0)))
    → ((j : ℕ) → j < n → P (place + j) (get_or block j (pos 0)))
    → (k : ℕ) → k < place + n → P k (get_or (put_chunk place old block) k (pos 0))
joined P old block place n long room front here k h = joined_at P old block place n long room front here k h (ltb k place) refl
