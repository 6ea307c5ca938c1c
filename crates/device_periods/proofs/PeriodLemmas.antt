-- Blocks, frame by frame.
use Rattle.std.proofs.Common.{◌≡◌, ◌≢◌, ℕ, zero, suc, ◌+◌, ◌-◌, ◌*◌, ◌<◌, ◌≤◌, Bool, true, false, nat_lt, List, [], ◌∷◌, ◌++◌, length, map, take, drop, get_or, ℤ, pos, Option, Some, None, refl, sym, ◌∙◌, ap, ap₂, subst, arith, append-nil}
use borrow.Rule.Slice.PartMut.{put_mid}
use Rattle.std.specs.Prelude.{min, replicate, slice_index_or, slice_range}
use Rattle.std.proofs.Math.Nat.{suc-mul}
use Rattle.std.proofs.lemmas.List.{ext_get_or, get_or_append_left, get_or_past, get_or-append-add, get_or-append_right, get_or-drop, get_or-map, get_or-set_other, get_or-set_same, get_or-take, length-append, length-drop, length-set, length-take-le, nil_from_length, take-append-drop, take-append-le, take_all}
use Rattle.std.proofs.lemmas.List.Concat.{flat_map-append}
use Rattle.std.proofs.Math.ListN.{set}
use Rattle.std.proofs.lemmas.Bool.{ltb-false, ltb-true}
use Rattle.client_kinds.proofs.BufferLemmas.{place_within, replicate-below}
use Rattle.wave_pcm.specs.session_model.specs.Samples.{below, sample, silence, interleaved}
use Rattle.client_kinds.specs.session_laws.proofs.ActivationLemmas.{get_or-map_below, length-map_below}
use Rattle.client_kinds.specs.Buffers.{buffers_of, channels_of, with_buffer}
use Rattle.device_periods.specs.Blocks.{IsLaid, channel_of}
use Rattle.wave_pcm.specs.Readings.{GivesPairs}
use Rattle.device_periods.specs.Captures.{AreOf, Fills, Reads}

-- ---- frames of a file

pub sample-past : (xs : List ℤ) (i : ℕ) → length xs ≤ i → sample xs i ≡ pos 0
sample-past [] i h = refl
sample-past (x ∷ xs) zero h = absurd (omega (arith, h))
sample-past (x ∷ xs) (suc i) h = sample-past xs i (omega (arith, h))

sample-silence : (n i : ℕ) → sample (silence n) i ≡ pos 0
sample-silence zero i = refl
sample-silence (suc n) zero = refl
sample-silence (suc n) (suc i) = sample-silence n i

-- a front of samples with zeros behind it
sample-front : (left : List ℤ) (count n i : ℕ) → count ≤ length left → (count ≤ i → length left ≤ i) → sample (take count left ++ silence n) i ≡ sample left i
sample-front left zero n i few past = sample-silence n i ∙ sym (sample-past left i (past (omega arith)))
sample-front [] (suc count) n i few past = absurd (omega (arith, few))
sample-front (x ∷ left) (suc count) n zero few past = refl
sample-front (x ∷ left) (suc count) n (suc i) few past = sample-front left count n i (omega (arith, few)) (λ h. let behind : length (x ∷ left) ≤ suc i = past (omega (arith, h)) in omega (arith, behind))

drop-least : (left : List ℤ) (n : ℕ) → drop (min n (length left)) left ≡ drop n left
drop-least [] zero = refl
drop-least [] (suc n) = ap (λ k. drop k []) (none n) ∙ refl
  where
    none : (n : ℕ) → min (suc n) 0 ≡ 0
    none n = omega arith
drop-least (x ∷ left) zero = ap (λ k. drop k (x ∷ left)) (none (length (x ∷ left)))
  where
    none : (n : ℕ) → min 0 n ≡ 0
    none n = omega arith
drop-least (x ∷ left) (suc n) = ap (λ k. drop k (x ∷ left)) (more n (length left)) ∙ drop-least left n
  where
    more : (n m : ℕ) → min (suc n) (suc m) ≡ suc (min n m)
    more n m = omega arith

pub fills : (left : List ℤ) (block : List ℤ) (count : ℕ) → count ≡ min (length block) (length left) → take count block ≡ take count left
    → (i : ℕ) → i < length block → sample (take count block ++ silence (length block - count)) i ≡ sample left i
fills left block count is front i within =
    ap (λ (xs : List ℤ). sample (xs ++ silence (length block - count)) i) front ∙ sample-front left count (length block - count) i (omega (arith, is)) (λ h. omega (arith, is, h, within))

pub drops : (left : List ℤ) (block : List ℤ) (count : ℕ) → count ≡ min (length block) (length left) → drop count left ≡ drop (length block) left
drops left block count is = ap (λ k. drop k left) is ∙ drop-least left (length block)

-- ---- the place of a frame's channel

-- two places with channels among so many are one only where frame and channel are one
pub apart : (n j i c p : ℕ) → c < n → p < n → j * n + c ≡ i * n + p → c ≡ p
apart n zero zero c p a b e = omega (arith, e, zero_mul n)
  where
    zero_mul : (n : ℕ) → 0 * n ≡ 0
    zero_mul n = omega arith
apart n zero (suc i) c p a b e = absurd (omega (arith, e, a, suc-mul i n))
apart n (suc j) zero c p a b e = absurd (omega (arith, e, b, suc-mul j n))
apart n (suc j) (suc i) c p a b e = apart n j i c p a b (omega (arith, e, suc-mul i n, suc-mul j n))

-- ---- a channel laid into a block

-- the places of other frames are others
other_frame : (n j i p : ℕ) → p < n → j < i → (j * n + p) ≢ (i * n + p)
other_frame n j i p within less e = omega (arith, within, e, place_within j i n less)

pub laid_more : (n i p : ℕ) (block samples : List ℤ) (x : ℤ) → p < n → i * n + p < length block → x ≡ sample samples i
    → ((j : ℕ) → j < i → sample block (j * n + p) ≡ sample samples j) → (j : ℕ) → j < i + 1 → sample (set block (i * n + p) x) (j * n + p) ≡ sample samples j
laid_more n i p block samples x within fits is before j less = one (nat_lt j i) refl
  where
    one : (b : Bool) → nat_lt j i ≡ b → sample (set block (i * n + p) x) (j * n + p) ≡ sample samples j
    one true e = let low : j < i = ltb-true j i e in get_or-set_other block (i * n + p) (j * n + p) x (pos 0) (other_frame n j i p within low) ∙ before j low
    one false e =
        let high : i ≤ j = ltb-false j i e in
        let same : j ≡ i = omega (arith, less, high) in
        ap (λ (k : ℕ). sample (set block (i * n + p) x) (k * n + p)) same ∙ get_or-set_same block (i * n + p) x (pos 0) fits ∙ is ∙ ap (sample samples) (sym same)

pub others_stay : (n i p : ℕ) (block old : List ℤ) (x : ℤ) → p < n → ((j c : ℕ) → c < n → c ≢ p → sample block (j * n + c) ≡ sample old (j * n + c))
    → (j c : ℕ) → c < n → c ≢ p → sample (set block (i * n + p) x) (j * n + c) ≡ sample old (j * n + c)
others_stay n i p block old x within before j c low other = get_or-set_other block (i * n + p) (j * n + c) x (pos 0) (λ e. other (apart n j i c p low within e)) ∙ before j c low other

-- two channels, a frame more
pub pairs_more : (left right block : List ℤ) (x y : ℤ) (i frames : ℕ) → i < frames → length block ≡ frames * 2 → x ≡ sample left i → y ≡ sample right i → IsLaid 2 i (left ∷ right ∷ []) block
    → IsLaid 2 (i + 1) (left ∷ right ∷ []) (set (set block (i * 2) x) (i * 2 + 1) y)
pairs_more left right block x y i frames within long is also laid j c low few = one c few
  where
    first : List ℤ
    first = set block (i * 2) x

    left_laid : (j : ℕ) → j < i + 1 → sample first (j * 2 + 0) ≡ sample left j
    left_laid = subst (λ (place : ℕ). (j : ℕ) → j < i + 1 → sample (set block place x) (j * 2 + 0) ≡ sample left j) (omega arith)
        (laid_more 2 i 0 block left x (omega arith) (omega (arith, within, long)) is (λ k less. laid k 0 less (omega arith)))

    right_before : (j : ℕ) → j < i → sample first (j * 2 + 1) ≡ sample right j
    right_before j less = get_or-set_other block (i * 2) (j * 2 + 1) x (pos 0) (λ e. omega (arith, e)) ∙ laid j 1 less (omega arith)

    right_laid : (j : ℕ) → j < i + 1 → sample (set first (i * 2 + 1) y) (j * 2 + 1) ≡ sample right j
    right_laid = laid_more 2 i 1 first right y (omega arith) (omega (arith, within, long, length-set block (i * 2) x)) also right_before

    one : (c : ℕ) → c < 2 → sample (set first (i * 2 + 1) y) (j * 2 + c) ≡ sample (get_or (left ∷ right ∷ []) c []) j
    one zero few = get_or-set_other first (i * 2 + 1) (j * 2 + 0) y (pos 0) (λ e. omega (arith, e)) ∙ left_laid j low
    one (suc zero) few = right_laid j low
    one (suc (suc c)) few = absurd (omega (arith, few))

-- the channels before it, and it
pub laid_next : (frames n p : ℕ) (buffers : List (List ℤ)) (old samples block : List ℤ) → p < n → length buffers ≡ p → IsLaid n frames buffers old
    → ((j : ℕ) → j < frames → sample block (j * n + p) ≡ sample samples j) → ((j c : ℕ) → c < n → c ≢ p → sample block (j * n + c) ≡ sample old (j * n + c))
    → (i c : ℕ) → i < frames → c < p + 1 → sample block (i * n + c) ≡ sample (get_or (buffers ++ samples ∷ []) c []) i
laid_next frames n p buffers old samples block within count before laid others i c low few = one (nat_lt c p) refl
  where
    one : (b : Bool) → nat_lt c p ≡ b → sample block (i * n + c) ≡ sample (get_or (buffers ++ samples ∷ []) c []) i
    one true e = let less : c < p = ltb-true c p e in
        others i c (omega (arith, less, within)) (λ same. let wrong : c < c = subst (λ q. c < q) (sym same) less in absurd (omega (arith, wrong)))
        ∙ before i c low (omega (arith, less, count)) ∙ ap (λ (buffer : List ℤ). sample buffer i) (sym (get_or_append_left buffers (samples ∷ []) [] c (omega (arith, less, count))))
    one false e =
        let high : p ≤ c = ltb-false c p e in
        let same : c ≡ p = omega (arith, few, high) in
        ap (λ q. sample block (i * n + q)) same ∙ laid i low ∙ ap (λ (buffer : List ℤ). sample buffer i) (sym (ap (λ q. get_or (buffers ++ samples ∷ []) q []) (omega (arith, same, count)) ∙ get_or-append-add buffers (samples ∷ []) 0 []))

-- ---- a whole block

length-map_of : (f : List ℤ → ℤ) (buffers : List (List ℤ)) → length (map f buffers) ≡ length buffers
length-map_of f [] = refl
length-map_of f (buffer ∷ buffers) = ap suc (length-map_of f buffers)

-- a block of all its channels is these, interleaved
pub laid_whole : (frames n : ℕ) (buffers : List (List ℤ)) (block : List ℤ) → length block ≡ frames * n → length buffers ≡ n
    → ((i c : ℕ) → i < frames → c < n → sample block (i * n + c) ≡ sample (get_or buffers c []) i) → block ≡ interleaved frames buffers
laid_whole zero n buffers block lengths count each = nil_from_length block (omega (arith, lengths, none n))
  where
    none : (n : ℕ) → 0 * n ≡ 0
    none n = omega arith
laid_whole (suc f) n buffers block lengths count each = joined (
    laid_whole f n buffers (take (f * n) block) (length-take-le (f * n) block (omega (arith, lengths, suc-mul f n))) count
    (λ i c low within. get_or-take (f * n) block (i * n + c) (pos 0) (omega (arith, within, place_within i f n low)) ∙ each i c (omega (arith, low)) within)
    )
  where
    long : length block ≡ f * n + n
    long = omega (arith, lengths, suc-mul f n)

    last : drop (f * n) block ≡ map (λ buffer. sample buffer f) buffers
    last = ext_get_or (pos 0) (drop (f * n) block) (map (λ buffer. sample buffer f) buffers) (length-drop (f * n) block ∙ omega (arith, long, count, length-map_of (λ (buffer : List ℤ). sample buffer f) buffers))
        (λ c low. get_or-drop (f * n) block c (pos 0) ∙ each f c (omega arith) (omega (arith, low, long, length-drop (f * n) block))
        ∙ sym (get_or-map (λ buffer. sample buffer f) buffers c [] (pos 0) (omega (arith, low, long, count, length-drop (f * n) block))))

    joined : take (f * n) block ≡ interleaved f buffers → block ≡ interleaved (suc f) buffers
    joined front =
        sym (take-append-drop (f * n) block)
        ∙ ap₂ (λ (a b : List ℤ). a ++ b) front last
        ∙ ap (λ (t : List ℤ). interleaved f buffers ++ t) (sym (append-nil (map (λ buffer. sample buffer f) buffers)))
        ∙ sym (flat_map-append (λ i. map (λ buffer. sample buffer i) buffers) (below f) (f ∷ []))

-- ---- channels, one after the other

pub length-channel : (count frames : ℕ) (block : List ℤ) (place : ℕ) → length (channel_of count frames block place) ≡ frames
length-channel count frames block place = length-map_below (λ i. sample block (i * count + place)) frames

pub length-with_buffer : (frames place count : ℕ) (planar buffer : List ℤ) → length planar ≡ count * frames → place < count → length buffer ≡ frames → length (with_buffer frames place planar buffer) ≡ count * frames
length-with_buffer frames place count planar buffer lengths within long =
    omega (
      arith,
      lengths,
      long,
      place_within place count frames within,
      length-append (take (place * frames) planar) (buffer ++ drop (place * frames + frames) planar),
      length-append buffer (drop (place * frames + frames) planar),
      length-take-le (place * frames) planar (omega (arith, lengths, place_within place count frames within)),
      length-drop (place * frames + frames) planar,
    )

-- so many frames of all channels lie within the room for more
pub room_for : (frames room channels : ℕ) → frames ≤ room → frames * channels ≤ room * channels
room_for zero room channels h = omega arith
room_for (suc frames) zero channels h = absurd (omega (arith, h))
room_for (suc frames) (suc room) channels h =
    let less : frames * channels ≤ room * channels = room_for frames room channels (omega (arith, h)) in
    omega (arith, less, suc-mul frames channels, suc-mul room channels)

same_below : (f g : ℕ → List ℤ) (n : ℕ) → ((i : ℕ) → i < n → f i ≡ g i) → map f (below n) ≡ map g (below n)
same_below f g zero h = refl
same_below f g (suc n) h =
    map_end f (below n) n ∙ ap₂ (λ (front : List (List ℤ)) (last : List ℤ). front ++ last ∷ []) (same_below f g n (λ i k. h i (omega (arith, k)))) (h n (omega arith)) ∙ sym (map_end g (below n) n)
  where
    map_end : (f : ℕ → List ℤ) (xs : List ℕ) (x : ℕ) → map f (xs ++ x ∷ []) ≡ map f xs ++ f x ∷ []
    map_end f [] x = refl
    map_end f (y ∷ xs) x = ap (λ (ys : List (List ℤ)). f y ∷ ys) (map_end f xs x)

slice_front : (front others : List ℤ) (a b : ℕ) → a ≤ b → b ≤ length front → slice_range (front ++ others) a b ≡ slice_range front a b
slice_front front others a b low high =
    ap (take (b - a)) (drop_front front others a (omega (arith, low, high))) ∙ take-append-le (b - a) (drop a front) others (omega (arith, low, high, length-drop a front))
  where
    drop_front : (front others : List ℤ) (a : ℕ) → a ≤ length front → drop a (front ++ others) ≡ drop a front ++ others
    drop_front front others zero h = refl
    drop_front [] others (suc a) h = absurd (omega (arith, h))
    drop_front (x ∷ front) others (suc a) h = drop_front front others a (omega (arith, h))

-- the buffers at the front of more samples
pub front_buffers : (count period : ℕ) (front others : List ℤ) → length front ≡ count * period → buffers_of count period (front ++ others) ≡ buffers_of count period front
front_buffers count period front others lengths =
    same_below (λ j. slice_range (front ++ others) (j * period) (j * period + period)) (λ j. slice_range front (j * period) (j * period + period)) count
    (λ j h. slice_front front others (j * period) (j * period + period) (omega arith) (omega (arith, lengths, place_within j count period h)))

pub length-silence : (n : ℕ) → length (silence n) ≡ n
length-silence zero = refl
length-silence (suc n) = ap suc (length-silence n)

pub take_seam : (n : ℕ) (xs ys : List ℤ) → length xs ≡ n → take n (xs ++ ys) ≡ xs
take_seam n xs ys lengths = take-append-le n xs ys (omega (arith, lengths)) ∙ take_all n xs (omega (arith, lengths))

-- ---- a period of a file

pub reads : (old new : Option (List ℤ)) (block : List ℤ) (channels : List (List ℤ)) (count frames : ℕ) → length block ≡ frames * count → channels ≡ channels_of count frames block → Fills old new block → Reads old new channels count frames
reads None new block channels count frames lengths is filled = tt
reads (Some left) new block channels count frames lengths is filled = (
  is ∙ same_below (λ j. map (λ i. sample block (i * count + j)) (below frames)) (λ j. map (λ i. sample left (i * count + j)) (below frames)) count
      (λ j within. same_samples (λ i. sample block (i * count + j)) (λ i. sample left (i * count + j)) frames
      (λ i low. filled.0 (i * count + j) (omega (arith, lengths, within, place_within i frames count low)))),
  filled.1 ∙ ap (λ (n : ℕ). Some (drop n left)) lengths,
)
  where
    same_samples : (f g : ℕ → ℤ) (n : ℕ) → ((i : ℕ) → i < n → f i ≡ g i) → map f (below n) ≡ map g (below n)
    same_samples f g zero h = refl
    same_samples f g (suc n) h =
        map_end f (below n) n ∙ ap₂ (λ (front : List ℤ) (last : ℤ). front ++ last ∷ []) (same_samples f g n (λ i k. h i (omega (arith, k)))) (h n (omega arith)) ∙ sym (map_end g (below n) n)
      where
        map_end : (f : ℕ → ℤ) (xs : List ℕ) (x : ℕ) → map f (xs ++ x ∷ []) ≡ map f xs ++ f x ∷ []
        map_end f [] x = refl
        map_end f (y ∷ xs) x = ap (λ (ys : List ℤ). f y ∷ ys) (map_end f xs x)

-- the channels of a block are as many as were asked for, each of as many frames
pub shape : (count frames : ℕ) (block : List ℤ) → AreOf count frames (channels_of count frames block)
shape count frames block = record {
  count_is = length-map_below (channel_of count frames block) count;
  frames_are = λ j d within.
      let inside : j < count = omega (arith, within, length-map_below (channel_of count frames block) count) in
      ap (λ (channel : List ℤ). length channel) (get_or-map_below (channel_of count frames block) count j d inside) ∙ length-channel count frames block j;
}

-- no period yet
pub no_frames : (count : ℕ) (samples : List ℤ) → buffers_of count 0 samples ≡ replicate count []
no_frames count samples =
    same_below (λ j. slice_range samples (j * 0) (j * 0 + 0)) (λ _. []) count (λ j h. ap (λ (n : ℕ). take n (drop (j * 0) samples)) (let none : (j * 0 + 0) - j * 0 ≡ 0 = omega arith in none))
    ∙ replicate-below count []

-- ---- the channel of a place

pub channel_there : (count period place : ℕ) (samples : List ℤ) → place < count → slice_range samples (place * period) (place * period + period) ≡ slice_index_or (buffers_of count period samples) place []
channel_there count period place samples h = sym (get_or-map_below (λ j. slice_range samples (j * period) (j * period + period)) count place [] h)

pub channel_past : (count period place : ℕ) (samples : List ℤ) → count ≤ place → [] ≡ slice_index_or (buffers_of count period samples) place []
channel_past count period place samples h =
    sym (get_or_past (buffers_of count period samples) place [] (omega (arith, h, length-map_below (λ j. slice_range samples (j * period) (j * period + period)) count)))

-- ---- frames of two channels

-- zeros behind a front
put_back : (a : ℕ) (xs ys : List ℤ) → put_mid a (length xs - a) xs ys ≡ take a xs ++ ys
put_back a xs ys =
    ap (λ (rest : List ℤ). take a xs ++ (ys ++ rest)) (nil_from_length (drop (length xs - a) (drop a xs)) (omega (arith, length-drop (length xs - a) (drop a xs), length-drop a xs)))
    ∙ ap (λ (back : List ℤ). take a xs ++ back) (append-nil ys)

-- a channel of which the front was read, with zeros behind it
channel_is : (left one : List ℤ) (c got n : ℕ) → length one ≡ n → got ≤ n → (got < n → length left ≤ got * 2) → ((k : ℕ) → k < got → sample one k ≡ sample left (k * 2 + c))
    → take got one ++ silence (n - got) ≡ map (λ i. sample left (i * 2 + c)) (below n)
channel_is left one c got n long few past each = ext_get_or (pos 0) (take got one ++ silence (n - got)) (map at (below n)) whole (λ k h. one_at k (inside k h) (nat_lt k got) refl ∙ sym (get_or-map_below at n k (pos 0) (inside k h)))
  where
    at : ℕ → ℤ
    at i = sample left (i * 2 + c)

    front : length (take got one) ≡ got
    front = length-take-le got one (omega (arith, long, few))

    all : length (take got one ++ silence (n - got)) ≡ n
    all = omega (arith, length-append (take got one) (silence (n - got)), front, length-silence (n - got), few)

    whole : length (take got one ++ silence (n - got)) ≡ length (map at (below n))
    whole = all ∙ sym (length-map_below at n)

    inside : (k : ℕ) → k < length (take got one ++ silence (n - got)) → k < n
    inside k h = omega (arith, h, all)

    one_at : (k : ℕ) → k < n → (b : Bool) → nat_lt k got ≡ b → sample (take got one ++ silence (n - got)) k ≡ at k
    one_at k within true e =
        let low : k < got = ltb-true k got e in
        get_or_append_left (take got one) (silence (n - got)) (pos 0) k (omega (arith, low, front)) ∙ get_or-take got one k (pos 0) low ∙ each k low
    one_at k within false e =
        let high : got ≤ k = ltb-false k got e in
        let short : length left ≤ got * 2 = past (omega (arith, high, within)) in
        get_or-append_right (take got one) (silence (n - got)) got k (pos 0) front high ∙ sample-silence (n - got) (k - got) ∙ sym (sample-past left (k * 2 + c) (omega (arith, short, high)))

-- both of them
pub pair_reads : (old new : Option (List ℤ)) (got n : ℕ) (one other back end : List ℤ) → length one ≡ n → length other ≡ n → got ≤ n → back ≡ silence (n - got) → end ≡ silence (n - got) → GivesPairs old new got n one other
    → Reads old new (put_mid got (length one - got) one back ∷ put_mid got (length other - got) other end ∷ []) 2 n
pair_reads None new got n one other back end long also few quiet silent gives = tt
pair_reads (Some left) new got n one other back end long also few quiet silent gives = (
  ap₂ (λ (a b : List ℤ). a ∷ b ∷ [])
      (put_back got one back ∙ ap (λ (xs : List ℤ). take got one ++ xs) quiet ∙ channel_is left one 0 got n long few past (λ k h. gives.one_is k h ∙ ap (sample left) (omega arith)))
      (put_back got other end ∙ ap (λ (xs : List ℤ). take got other ++ xs) silent ∙ channel_is left other 1 got n also few past gives.other_is),
  gives.after_is ∙ ap (λ (xs : List ℤ). Some xs) (ap (λ (k : ℕ). drop k left) gives.count_is ∙ drop-least left (n * 2)),
)
  where
    past : got < n → length left ≤ got * 2
    past h = omega (arith, h, gives.count_is)
