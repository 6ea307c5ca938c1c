-- Planar buffers within longer lists.
--     slice-take, slice-front      what stands within a front of a list
--     slice-behind      what stands behind a front
--     buffers-take, buffers-front      the buffers within a front of a list
--     slice-same, slice-other      a buffer that was put at a place, and those at other places
--     buffer_short      a buffer has at most 4,096 samples where the period has
use Rattle.std.proofs.Common.{◌≡◌, ◌≢◌, ℕ, zero, suc, ◌+◌, ◌-◌, ◌*◌, ◌<◌, ◌≤◌, Bool, true, false, List, [], ◌∷◌, ◌++◌, length, map, take, drop, ℤ, refl, sym, ◌∙◌, ap, ap₂, subst, arith, add-one}
use Rattle.std.specs.Prelude.{slice_range, slice_index_or, nat_lt}
use Rattle.std.proofs.lemmas.Bool.{leb-true, ltb-false}
use Rattle.std.proofs.Math.Seq.{take-append_seam, drop-append_seam, drop-nil}
use Rattle.std.proofs.lemmas.List.{get_or_past, length-take, length-take-le, length-drop, take-take, take-append-le, drop-append-le, drop-take, length-append, append_assoc}
use Rattle.activation.specs.session_model.specs.Samples.{below}
use Rattle.activation.specs.session_laws.proofs.ActivationLemmas.{get_or-map_below, length-map_below}
use Rattle.client_kinds.specs.Buffers.{buffers_of, with_buffer}
use Rattle.client_kinds.proofs.BufferLemmas.{place_within}

pub map_more : {X Y : Type 0} (f : X → Y) (xs : List X) (x : X) → map f (xs ++ x ∷ []) ≡ map f xs ++ f x ∷ []
map_more f [] x = refl
map_more f (y ∷ xs) x = ap (λ ys. f y ∷ ys) (map_more f xs x)

pub map_below-same : {X : Type 0} (f g : ℕ → X) (n : ℕ) → ((i : ℕ) → i < n → f i ≡ g i) → map f (below n) ≡ map g (below n)
map_below-same f g zero h = refl
map_below-same f g (suc n) h =
    map_more f (below n) n ∙ ap₂ (λ front last. front ++ last ∷ []) (map_below-same f g n (λ i k. h i (omega (arith, k)))) (h n (omega arith)) ∙ sym (map_more g (below n) n)

pub front : {X : Type 0} (n : ℕ) (first others : List X) → length first ≡ n → take n (first ++ others) ≡ first
front n first others h = subst (λ m. take m (first ++ others) ≡ first) h (take-append_seam first others)

pub slice-front : {X : Type 0} (a b : ℕ) (first others : List X) → a ≤ b → b ≤ length first → slice_range (first ++ others) a b ≡ slice_range first a b
slice-front a b first others low within =
    ap (λ xs. take (b - a) xs) (drop-append-le a first others (omega (arith, low, within)))
    ∙ take-append-le (b - a) (drop a first) others (omega (arith, length-drop a first, low, within))

pub slice-take : {X : Type 0} (a b m : ℕ) (xs : List X) → a ≤ b → b ≤ m → slice_range (take m xs) a b ≡ slice_range xs a b
slice-take a b m xs low within =
    ap (λ xs. take (b - a) xs) (subst (λ k. drop a (take k xs) ≡ take (m - a) (drop a xs)) (more a m (omega (arith, low, within))) (drop-take a (m - a) xs))
    ∙ take-take (b - a) (m - a) (drop a xs) (omega (arith, within))
  where
    more : (a m : ℕ) → a ≤ m → a + (m - a) ≡ m
    more a m h = omega (arith, h)

pub buffers-front : (count period : ℕ) (first others : List ℤ) → count * period ≤ length first → buffers_of count period (first ++ others) ≡ buffers_of count period first
buffers-front count period first others within =
    map_below-same (λ j. slice_range (first ++ others) (j * period) (j * period + period)) (λ j. slice_range first (j * period) (j * period + period)) count
    (λ j h. slice-front (j * period) (j * period + period) first others (omega arith) (omega (arith, place_within j count period h, within)))

pub buffers-take : (count period n : ℕ) (xs : List ℤ) → count * period ≤ n → buffers_of count period (take n xs) ≡ buffers_of count period xs
buffers-take count period n xs within =
    map_below-same (λ j. slice_range (take n xs) (j * period) (j * period + period)) (λ j. slice_range xs (j * period) (j * period + period)) count
    (λ j h. slice-take (j * period) (j * period + period) n xs (omega arith) (omega (arith, place_within j count period h, within)))

drop-sum : (a b : ℕ) (xs : List ℤ) → drop b (drop a xs) ≡ drop (a + b) xs
drop-sum zero b xs = ap (λ n. drop n xs) (omega arith)
drop-sum (suc a) b [] = drop-nil b ∙ sym (drop-nil (suc a + b))
drop-sum (suc a) b (x ∷ xs) = drop-sum a b xs ∙ ap (λ n. drop n (x ∷ xs)) (next a b)
  where
    next : (a b : ℕ) → suc (a + b) ≡ suc a + b
    next a b = omega arith

pub length-slice : (place count period : ℕ) (samples : List ℤ) → count * period ≤ length samples → place < count → length (slice_range samples (place * period) (place * period + period)) ≡ period
length-slice place count period samples long h =
    length-take-le (place * period + period - place * period) (drop (place * period) samples) (omega (arith, length-drop (place * period) samples, place_within place count period h, long))
    ∙ omega arith

-- what was put at a place stands there
pub slice-here : (place period : ℕ) (old buffer : List ℤ) → place * period ≤ length old → length buffer ≡ period → slice_range (with_buffer period place old buffer) (place * period) (place * period + period) ≡ buffer
slice-here place period old buffer within long =
    ap (λ xs. take (place * period + period - place * period) xs) (behind (place * period) (take (place * period) old) (buffer ++ drop (place * period + period) old) (length-take-le (place * period) old within))
    ∙ ap (λ n. take n (buffer ++ drop (place * period + period) old)) (less (place * period) period)
    ∙ front period buffer (drop (place * period + period) old) long
  where
    less : (m period : ℕ) → m + period - m ≡ period
    less m period = omega arith

    behind : (n : ℕ) (first others : List ℤ) → length first ≡ n → drop n (first ++ others) ≡ others
    behind n first others h = subst (λ m. drop m (first ++ others) ≡ others) h (drop-append_seam first others)

-- what stands before a place stays
slice-before : (other place period : ℕ) (old buffer : List ℤ) → other < place → place * period ≤ length old
    → slice_range (with_buffer period place old buffer) (other * period) (other * period + period) ≡ slice_range old (other * period) (other * period + period)
slice-before other place period old buffer low within =
    slice-front (other * period) (other * period + period) (take (place * period) old) (buffer ++ drop (place * period + period) old) (omega arith)
    (omega (arith, place_within other place period low, length-take-le (place * period) old within))
    ∙ slice-take (other * period) (other * period + period) (place * period) old (omega arith) (place_within other place period low)

-- and what stands behind it
slice-after : (other place period : ℕ) (old buffer : List ℤ) → place < other → place * period + period ≤ length old → length buffer ≡ period
    → slice_range (with_buffer period place old buffer) (other * period) (other * period + period) ≡ slice_range old (other * period) (other * period + period)
slice-after other place period old buffer high within long =
    ap (λ xs. take (other * period + period - other * period) xs) (
    drop-more (other * period) (place * period + period) (with_buffer period place old buffer) (place_within place other period high)
    ∙ ap (λ xs. drop (other * period - (place * period + period)) xs) rest
    ∙ sym (drop-more (other * period) (place * period + period) old (place_within place other period high)))
  where
    first : List ℤ
    first = take (place * period) old ++ buffer

    first-long : length first ≡ place * period + period
    first-long = length-append (take (place * period) old) buffer ∙ (omega (arith, length-take-le (place * period) old (omega (arith, within)), long))

    rest : drop (place * period + period) (with_buffer period place old buffer) ≡ drop (place * period + period) old
    rest =
        ap (drop (place * period + period)) (sym (append_assoc (take (place * period) old) buffer (drop (place * period + period) old)))
        ∙ subst (λ n. drop n (first ++ drop (place * period + period) old) ≡ drop (place * period + period) old) first-long (drop-append_seam first (drop (place * period + period) old))

    drop-more : (a b : ℕ) (xs : List ℤ) → b ≤ a → drop a xs ≡ drop (a - b) (drop b xs)
    drop-more a b xs h = ap (λ n. drop n xs) (more a b h) ∙ sym (drop-sum b (a - b) xs)
      where
        more : (a b : ℕ) → b ≤ a → a ≡ b + (a - b)
        more a b h = omega (arith, h)

pub slice-other : (other place period : ℕ) (old buffer : List ℤ) → other ≢ place → place * period + period ≤ length old → length buffer ≡ period
    → slice_range (with_buffer period place old buffer) (other * period) (other * period + period) ≡ slice_range old (other * period) (other * period + period)
slice-other other place period old buffer apart within long = go (nat_lt other place) refl
  where
    go : (b : Bool) → nat_lt other place ≡ b → slice_range (with_buffer period place old buffer) (other * period) (other * period + period) ≡ slice_range old (other * period) (other * period + period)
    go true h = slice-before other place period old buffer (leb-true (suc other) place h) (omega (arith, within))
    go false h = slice-after other place period old buffer (omega (arith, ltb-false other place h, apart)) within long

pub length-with_buffer : (place period : ℕ) (old buffer : List ℤ) → place * period + period ≤ length old → length buffer ≡ period → length (with_buffer period place old buffer) ≡ length old
length-with_buffer place period old buffer within long =
    length-append (take (place * period) old) (buffer ++ drop (place * period + period) old)
    ∙ (omega (arith, length-append buffer (drop (place * period + period) old), length-take-le (place * period) old (omega (arith, within)), long, length-drop (place * period + period) old, within))

-- one more buffer that is what it has to be
pub buffers-more : (f : ℕ → List ℤ) (old : List ℤ) (place period : ℕ) (buffer : List ℤ) → place * period + period ≤ length old → length buffer ≡ period → buffer ≡ f place
    → buffers_of place period old ≡ map f (below place) → buffers_of (place + 1) period (with_buffer period place old buffer) ≡ map f (below (place + 1))
buffers-more f old place period buffer within long is before =
    ap (λ n. buffers_of n period (with_buffer period place old buffer)) (add-one place)
    ∙ map_more (λ j. slice_range (with_buffer period place old buffer) (j * period) (j * period + period)) (below place) place
    ∙ ap₂ (λ (front : List (List ℤ)) (last : List ℤ). front ++ last ∷ [])
    (map_below-same (λ j. slice_range (with_buffer period place old buffer) (j * period) (j * period + period)) (λ j. slice_range old (j * period) (j * period + period)) place
    (λ i h. slice-before i place period old buffer h (omega (arith, within)))
    ∙ before)
    (slice-here place period old buffer (omega (arith, within)) long ∙ is)
    ∙ sym (map_more f (below place) place)
    ∙ ap (λ n. map f (below n)) (sym (add-one place))

pub buffer_there : (place count period : ℕ) (samples : List ℤ) → place < count → slice_range samples (place * period) (place * period + period) ≡ slice_index_or (buffers_of count period samples) place []
buffer_there place count period samples h = sym (get_or-map_below (λ j. slice_range samples (j * period) (j * period + period)) count place [] h)

pub buffer_none : (place count period : ℕ) (samples : List ℤ) → count ≤ place → [] ≡ slice_index_or (buffers_of count period samples) place []
buffer_none place count period samples h = sym (get_or_past (buffers_of count period samples) place [] (omega (arith, h, length-map_below (λ j. slice_range samples (j * period) (j * period + period)) count)))

pub buffer_fits : (place count period : ℕ) → place < count → place * period + period ≤ count * period
buffer_fits = place_within

pub buffer_short : (place count period : ℕ) (samples : List ℤ) → period ≤ 4096 → length (slice_index_or (buffers_of count period samples) place []) ≤ 4096
buffer_short place count period samples few = go (nat_lt place count) refl
  where
    go : (b : Bool) → nat_lt place count ≡ b → length (slice_index_or (buffers_of count period samples) place []) ≤ 4096
    go true h =
        subst (λ (xs : List ℤ). length xs ≤ 4096) (buffer_there place count period samples (leb-true (suc place) count h))
        (omega (arith, few, length-take (place * period + period - place * period) (drop (place * period) samples)))
    go false h = subst (λ (xs : List ℤ). length xs ≤ 4096) (buffer_none place count period samples (ltb-false place count h)) (omega arith)
