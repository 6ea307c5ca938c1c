-- Planar buffers.
--     place_within      a buffer ends where all end, or before
--     buffer_within, buffer_past      what stands at a place
--     length-buffer      how long a buffer is
--     take_silence      a front of silence
--     outputs_by-same, silent_buffers      equal buffers
--     with_buffer-step      one more buffer that is what it has to be
use Rattle.std.proofs.Common.{◌≡◌, ℕ, zero, suc, ◌+◌, ◌-◌, ◌*◌, ◌<◌, ◌≤◌, List, [], ◌∷◌, ◌++◌, length, map, take, drop, replicate, ℤ, pos, refl, sym, ◌∙◌, ap, ap₂, subst, arith, add-one, mul_comm}
use Rattle.std.specs.Prelude.{slice_range}
use Rattle.std.proofs.Math.Nat.{mul-le-mul_right}
use Rattle.std.proofs.Math.Seq.{take-append_seam, drop-append_seam}
use Rattle.std.proofs.lemmas.List.{get_or_append_left, get_or_past, length-take-le, length-drop, take-take, take_all, take-append-le, drop-append-le, drop-take}
use Rattle.port_mixer.specs.session_model.specs.Kinds.{input_at, outputs_by}
use Rattle.port_mixer.specs.session_model.specs.Samples.{below, sample, silence, total}
use Rattle.port_mixer.specs.session_laws.proofs.ActivationLemmas.{length-map_below, get_or-map_below}
use Rattle.port_mixer.specs.Sums.{sums_of}
use Rattle.client_kinds.specs.Buffers.{buffers_of, channels_of, with_buffer}

pub place_within : (place count period : ℕ) → place < count → place * period + period ≤ count * period
place_within place count period h = let more : suc place * period ≤ count * period = mul-le-mul_right period h in omega (arith, more)

pub buffer_within : (place count period : ℕ) (samples : List ℤ) → place < count → input_at period (buffers_of count period samples) place ≡ slice_range samples (place * period) (place * period + period)
buffer_within place count period samples h = get_or-map_below (λ j. slice_range samples (j * period) (j * period + period)) count place (silence period) h

pub buffer_past : (place count period : ℕ) (samples : List ℤ) → count ≤ place → input_at period (buffers_of count period samples) place ≡ silence period
buffer_past place count period samples h = get_or_past (buffers_of count period samples) place (silence period) (omega (arith, h, length-map_below (λ j. slice_range samples (j * period) (j * period + period)) count))

pub length-buffer : (place count period : ℕ) (samples : List ℤ) → length samples ≡ count * period → place < count → length (slice_range samples (place * period) (place * period + period)) ≡ period
length-buffer place count period samples lengths h =
    length-take-le (place * period + period - place * period) (drop (place * period) samples) (omega (arith, length-drop (place * period) samples, place_within place count period h, lengths))
    ∙ omega arith

front : (n : ℕ) (first others : List ℤ) → length first ≡ n → take n (first ++ others) ≡ first
front n first others h = subst (λ m. take m (first ++ others) ≡ first) h (take-append_seam first others)

behind : (n : ℕ) (first others : List ℤ) → length first ≡ n → drop n (first ++ others) ≡ others
behind n first others h = subst (λ m. drop m (first ++ others) ≡ others) h (drop-append_seam first others)

-- what stands before a place stays
slice-before : (a b m : ℕ) (old others : List ℤ) → a ≤ b → b ≤ m → m ≤ length old → slice_range (take m old ++ others) a b ≡ slice_range old a b
slice-before a b m old others low high within =
    let lengths : length (take m old) ≡ m = length-take-le m old within in
    let cut : drop a (take m old) ≡ take (m - a) (drop a old) = subst (λ k. drop a (take k old) ≡ take (m - a) (drop a old)) (more a m (omega (arith, low, high))) (drop-take a (m - a) old) in
    ap (λ xs. take (b - a) xs) (drop-append-le a (take m old) others (omega (arith, lengths, low, high)))
    ∙ take-append-le (b - a) (drop a (take m old)) others (omega (arith, lengths, length-drop a (take m old), low, high))
    ∙ ap (λ xs. take (b - a) xs) cut
    ∙ take-take (b - a) (m - a) (drop a old) (omega (arith, high))
  where
    more : (a m : ℕ) → a ≤ m → a + (m - a) ≡ m
    more a m h = omega (arith, h)

-- what was put at a place stands there
slice-at : (m period : ℕ) (old buffer others : List ℤ) → m ≤ length old → length buffer ≡ period → slice_range (take m old ++ (buffer ++ others)) m (m + period) ≡ buffer
slice-at m period old buffer others within lengths =
    ap (λ xs. take (m + period - m) xs) (behind m (take m old) (buffer ++ others) (length-take-le m old within))
    ∙ ap (λ n. take n (buffer ++ others)) (less m period)
    ∙ front period buffer others lengths
  where
    less : (m period : ℕ) → m + period - m ≡ period
    less m period = omega arith

map_more : {X Y : Type 0} (f : X → Y) (xs : List X) (x : X) → map f (xs ++ x ∷ []) ≡ map f xs ++ f x ∷ []
map_more f [] x = refl
map_more f (y ∷ xs) x = ap (λ ys. f y ∷ ys) (map_more f xs x)

same-below : (f g : ℕ → List ℤ) (n : ℕ) → ((i : ℕ) → i < n → f i ≡ g i) → map f (below n) ≡ map g (below n)
same-below f g zero h = refl
same-below f g (suc n) h =
    map_more f (below n) n ∙ ap₂ (λ (front : List (List ℤ)) (last : List ℤ). front ++ last ∷ []) (same-below f g n (λ i k. h i (omega (arith, k)))) (h n (omega arith)) ∙ sym (map_more g (below n) n)

pub with_buffer-step : (f : ℕ → List ℤ) (old : List ℤ) (place count period : ℕ) (buffer : List ℤ) → length old ≡ count * period → place < count → length buffer ≡ period → buffer ≡ f place
    → buffers_of place period old ≡ outputs_by place f → buffers_of (place + 1) period (with_buffer period place old buffer) ≡ outputs_by (place + 1) f
with_buffer-step f old place count period buffer lengths within long is before =
    ap (λ n. buffers_of n period (with_buffer period place old buffer)) (add-one place)
    ∙ map_more (λ j. slice_range (with_buffer period place old buffer) (j * period) (j * period + period)) (below place) place
    ∙ ap₂ (λ (front : List (List ℤ)) (last : List ℤ). front ++ last ∷ [])
    (same-below (λ j. slice_range (with_buffer period place old buffer) (j * period) (j * period + period)) (λ j. slice_range old (j * period) (j * period + period)) place
    (λ i h. slice-before (i * period) (i * period + period) (place * period) old (buffer ++ drop (place * period + period) old) (omega arith) (place_within i place period h) fits)
    ∙ before)
    (slice-at (place * period) period old buffer (drop (place * period + period) old) fits long ∙ is)
    ∙ sym (map_more f (below place) place)
    ∙ ap (λ n. outputs_by n f) (sym (add-one place))
  where
    fits : place * period ≤ length old
    fits = omega (arith, lengths, place_within place count period within)

pub take_silence : (n m : ℕ) → n ≤ m → take n (silence m) ≡ silence n
take_silence zero m h = refl
take_silence (suc n) zero h = absurd (omega (arith, h))
take_silence (suc n) (suc m) h = ap (λ xs. pos 0 ∷ xs) (take_silence n m (omega (arith, h)))

pub replicate-below : {X : Type 0} (n : ℕ) (x : X) → map (λ _. x) (below n) ≡ replicate n x
replicate-below zero x = refl
replicate-below (suc n) x = map_more (λ _. x) (below n) n ∙ ap (λ xs. xs ++ x ∷ []) (replicate-below n x) ∙ sym (replicate-end n x)
  where
    replicate-end : {X : Type 0} (n : ℕ) (x : X) → replicate (suc n) x ≡ replicate n x ++ x ∷ []
    replicate-end zero x = refl
    replicate-end (suc n) x = ap (λ xs. x ∷ xs) (replicate-end n x)

-- as a list of equal buffers
pub outputs_by-same : (n : ℕ) (buffer : List ℤ) → outputs_by n (λ _. buffer) ≡ replicate n buffer
outputs_by-same n buffer = replicate-below n buffer

slice-silence : (n a b : ℕ) → a ≤ b → b ≤ n → slice_range (silence n) a b ≡ silence (b - a)
slice-silence n a b low high =
    ap (λ xs. take (b - a) xs) (drop_silence a n (omega (arith, low, high))) ∙ take_silence (b - a) (n - a) (omega (arith, low, high))
  where
    drop_silence : (a n : ℕ) → a ≤ n → drop a (silence n) ≡ silence (n - a)
    drop_silence zero n h = ap silence (omega arith)
    drop_silence (suc a) zero h = absurd (omega (arith, h))
    drop_silence (suc a) (suc n) h = drop_silence a n (omega (arith, h)) ∙ ap silence (less a n)
      where
        less : (a n : ℕ) → n - a ≡ suc n - suc a
        less a n = omega arith

pub silent_buffers : (count period n : ℕ) → n ≡ count * period → buffers_of count period (silence n) ≡ replicate count (silence period)
silent_buffers count period n is =
    same-below (λ j. slice_range (silence n) (j * period) (j * period + period)) (λ _. silence period) count
    (λ j h. slice-silence n (j * period) (j * period + period) (omega arith) (omega (arith, place_within j count period h, is)) ∙ ap silence (less (j * period) period))
    ∙ replicate-below count (silence period)
  where
    less : (m period : ℕ) → m + period - m ≡ period
    less m period = omega arith

front-below : (f : ℕ → ℤ) (n more : ℕ) → take n (map f (below (n + more))) ≡ map f (below n)
front-below f n zero =
    let same : n + zero ≡ n = omega arith in
    ap (λ m. take n (map f (below m))) same ∙ take_all n (map f (below n)) (omega (arith, length-map_below f n))
front-below f n (suc more) =
    let same : n + suc more ≡ suc (n + more) = omega arith in
    ap (λ m. take n (map f (below m))) same
    ∙ ap (take n) (map_more f (below (n + more)) (n + more))
    ∙ take-append-le n (map f (below (n + more))) (f (n + more) ∷ []) (omega (arith, length-map_below f (n + more)))
    ∙ front-below f n more

-- a front of a channel
pub channel_front : (place count period n : ℕ) (block : List ℤ) → n ≤ period → place < count
    → map (λ i. sample block (i * count + place)) (below n) ≡ take n (input_at n (channels_of count period block) place)
channel_front place count period n block short h =
    let same : n + (period - n) ≡ period = omega (arith, short) in
    sym (ap (λ m. take n (map (λ i. sample block (i * count + place)) (below m))) (sym same) ∙ front-below (λ i. sample block (i * count + place)) n (period - n))
    ∙ ap (take n) (sym (get_or-map_below (λ j. map (λ i. sample block (i * count + j)) (below period)) count place (silence n) h))

pub channel_past : (place count period n : ℕ) (block : List ℤ) → count ≤ place → silence n ≡ take n (input_at n (channels_of count period block) place)
channel_past place count period n block h =
    sym (take_silence n n (omega arith))
    ∙ ap (take n) (sym (get_or_past (channels_of count period block) place (silence n) (omega (arith, h, length-map_below (λ j. map (λ i. sample block (i * count + j)) (below period)) count))))

-- what stands in front of a place stays
pub front-kept : (period place : ℕ) (old buffer : List ℤ) → period ≤ place * period → place * period ≤ length old → take period (with_buffer period place old buffer) ≡ take period old
front-kept period place old buffer low within =
    take-append-le period (take (place * period) old) (buffer ++ drop (place * period + period) old) (omega (arith, low, length-take-le (place * period) old within))
    ∙ take-take period (place * period) old low

pub repeat-step : (old : List ℤ) (place count period : ℕ) (buffer : List ℤ) → length old ≡ count * period → place < count → length buffer ≡ period
    → buffers_of place period old ≡ replicate place buffer → buffers_of (place + 1) period (with_buffer period place old buffer) ≡ replicate (place + 1) buffer
repeat-step old place count period buffer lengths within long before =
    with_buffer-step (λ _. buffer) old place count period buffer lengths within long refl (before ∙ sym (outputs_by-same place buffer)) ∙ outputs_by-same (place + 1) buffer

-- what lies behind a block is not heard
pub channels-front : (count period : ℕ) (block others : List ℤ) → length block ≡ count * period → channels_of count period (block ++ others) ≡ channels_of count period block
channels-front count period block others lengths =
    same-below (λ j. map (λ i. sample (block ++ others) (i * count + j)) (below period)) (λ j. map (λ i. sample block (i * count + j)) (below period)) count
    (λ j within. same-samples (λ i. sample (block ++ others) (i * count + j)) (λ i. sample block (i * count + j)) period
    (λ i low. get_or_append_left block others (pos 0) (i * count + j) (omega (arith, lengths, within, place_within i period count low, mul_comm count period))))
  where
    same-samples : (f g : ℕ → ℤ) (n : ℕ) → ((i : ℕ) → i < n → f i ≡ g i) → map f (below n) ≡ map g (below n)
    same-samples f g zero h = refl
    same-samples f g (suc n) h =
        map_more f (below n) n ∙ ap₂ (λ (front : List ℤ) (last : ℤ). front ++ last ∷ []) (same-samples f g n (λ i k. h i (omega (arith, k)))) (h n (omega arith)) ∙ sym (map_more g (below n) n)

pub buffers-more : (place period : ℕ) (samples : List ℤ) → buffers_of (place + 1) period samples ≡ buffers_of place period samples ++ slice_range samples (place * period) (place * period + period) ∷ []
buffers-more place period samples = ap (λ n. buffers_of n period samples) (add-one place) ∙ map_more (λ j. slice_range samples (j * period) (j * period + period)) (below place) place

pub length_sums : (frames : ℕ) (parts : List (List ℤ)) → length (sums_of frames parts) ≡ frames
length_sums frames parts = length-map_below (λ i. total (map (λ part. sample part i) parts)) frames
