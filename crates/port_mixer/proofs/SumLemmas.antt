-- Sums of parts.
--     added-is      a list that has each sum with one more sample is the sums with that part
--     sums_of_none, sums_of_added      the sums of no part, and of one more part
--     added-first      the sums of one part alone are that part
--     clamped_sums      a mix is the clamped sums of its parts
--     AreSumsOf-silence, AreSumsOf-added, small-AreSumsOf      how large sums are
--     AreOf, more-of      sums that are those of a function so far, and one more
--     all_added-is, sums_of-all_added      the sums with more parts
--     AreSumsOf-four      how large sums with four more parts are
use Rattle.std.proofs.Common.{◌≡◌, ℕ, zero, suc, ◌+◌, ◌<◌, ◌≤◌, Bool, true, false, List, [], ◌∷◌, ◌++◌, length, map, fold, take, get_or, ℤ, pos, ◌+ℤ◌, refl, sym, ◌∙◌, ap, subst, arith, append_assoc}
use Rattle.std.specs.Int.{w32}
use Rattle.std.specs.Prelude.{All, FitsSigned, nat_lt, slice_set}
use Rattle.std.proofs.lemmas.Bool.{ltb-false, ltb-true}
use Rattle.std.proofs.lemmas.Int.{ints}
use Rattle.std.proofs.lemmas.List.{append-nil, ext_get_or, get_or_past, get_or-set_other, get_or-set_same, length-replicate, length-take-le}
use Rattle.std.proofs.lemmas.List.Sums.{fold-append}
use Rattle.session_laws.specs.session_model.specs.Samples.{below, clamp, mix, sample, silence, total}
use Rattle.session_laws.proofs.ActivationLemmas.{length-map_below, get_or-map_below}
use Rattle.session_laws.proofs.PlaceLemmas.{sample-silence}
use Rattle.samples.specs.Sums.{IsSmall}
use Rattle.port_mixer.specs.Sums.{AreSamples, AreSumsOf, IsSumOf, added, all_added, sums_of}

pub added-is : (sums new part : List ℤ) → length new ≡ length sums → ((k : ℕ) → sample new k ≡ sample sums k +ℤ sample part k) → new ≡ added sums part
added-is sums new part lengths each =
    ext_get_or (pos 0) new (added sums part) (lengths ∙ sym (length-map_below (λ i. sample sums i +ℤ sample part i) (length sums)))
    (λ k h. each k ∙ sym (get_or-map_below (λ i. sample sums i +ℤ sample part i) (length sums) k (pos 0) (omega (arith, h, lengths))))

pub front : {X : Type 0} (n : ℕ) (first others : List X) → length first ≡ n → take n (first ++ others) ≡ first
front n [] others h = subst (λ m. take m others ≡ []) h refl
front zero (x ∷ first) others h = absurd (omega (arith, h))
front (suc n) (x ∷ first) others h = ap (λ xs. x ∷ xs) (front n first others (omega (arith, h)))

-- what stands in front of the others
pub front-added : (n : ℕ) (old new part others : List ℤ) → length new ≡ n → n ≤ length old → ((k : ℕ) → sample new k ≡ sample (take n old) k +ℤ sample part k)
    → take n (new ++ others) ≡ added (take n old) part
front-added n old new part others lengths within each = front n new others lengths ∙ added-is (take n old) new part (lengths ∙ sym (length-take-le n old within)) each

total-more : (numbers : List ℤ) (x : ℤ) → total (numbers ++ x ∷ []) ≡ total numbers +ℤ x
total-more numbers x = fold-append ◌+ℤ◌ (pos 0) numbers (x ∷ [])

map-more : {X Y : Type 0} (f : X → Y) (xs : List X) (x : X) → map f (xs ++ x ∷ []) ≡ map f xs ++ f x ∷ []
map-more f [] x = refl
map-more f (y ∷ xs) x = ap (λ ys. f y ∷ ys) (map-more f xs x)

map_twice : {X Y Z : Type 0} (g : Y → Z) (f : X → Y) (xs : List X) → map g (map f xs) ≡ map (λ x. g (f x)) xs
map_twice g f [] = refl
map_twice g f (x ∷ xs) = ap (λ ys. g (f x) ∷ ys) (map_twice g f xs)

pub sums_of_none : (frames : ℕ) → silence frames ≡ sums_of frames []
sums_of_none frames =
    ext_get_or (pos 0) (silence frames) (sums_of frames []) (length-replicate frames (pos 0) ∙ sym (length-map_below (λ _. pos 0) frames))
    (λ k h. sym (sample-silence frames k) ∙ sym (get_or-map_below (λ _. pos 0) frames k (pos 0) (omega (arith, h, length-replicate frames (pos 0)))))

pub sums_of_added : (frames : ℕ) (parts : List (List ℤ)) (part : List ℤ) → added (sums_of frames parts) part ≡ sums_of frames (parts ++ part ∷ [])
sums_of_added frames parts part =
    ext_get_or (pos 0) (added (sums_of frames parts) part) (sums_of frames (parts ++ part ∷ []))
    (length-map_below one (length (sums_of frames parts)) ∙ lengths ∙ sym (length-map_below (sum (parts ++ part ∷ [])) frames))
    (λ k h. at k (omega (arith, h, length-map_below one (length (sums_of frames parts)), lengths)))
  where
    sum : List (List ℤ) → ℕ → ℤ
    sum all i = total (map (λ part. sample part i) all)

    one : ℕ → ℤ
    one i = sample (sums_of frames parts) i +ℤ sample part i

    lengths : length (sums_of frames parts) ≡ frames
    lengths = length-map_below (sum parts) frames

    at : (k : ℕ) → k < frames → get_or (added (sums_of frames parts) part) k (pos 0) ≡ get_or (sums_of frames (parts ++ part ∷ [])) k (pos 0)
    at k h =
        get_or-map_below one (length (sums_of frames parts)) k (pos 0) (omega (arith, h, lengths))
        ∙ ap (λ x. x +ℤ sample part k) (get_or-map_below (sum parts) frames k (pos 0) h)
        ∙ sym (total-more (map (λ part. sample part k) parts) (sample part k))
        ∙ ap total (sym (map-more (λ part. sample part k) parts part))
        ∙ sym (get_or-map_below (sum (parts ++ part ∷ [])) frames k (pos 0) h)

pub added-first : (frames : ℕ) (part : List ℤ) → length part ≡ frames → part ≡ added (silence frames) part
added-first frames part lengths =
    added-is (silence frames) part part (lengths ∙ sym (length-replicate frames (pos 0)))
    (λ k. zero-more (sample part k) ∙ ap (λ x. x +ℤ sample part k) (sample-silence frames k))
  where
    zero-more : (x : ℤ) → x ≡ pos 0 +ℤ x
    zero-more x = omega (arith, ints)

pub silence-is : (frames : ℕ) (xs : List ℤ) → length xs ≡ frames → ((k : ℕ) → k < frames → sample xs k ≡ pos 0) → xs ≡ silence frames
silence-is frames xs lengths each =
    ext_get_or (pos 0) xs (silence frames) (lengths ∙ sym (length-replicate frames (pos 0))) (λ k h. each k (omega (arith, h, lengths)) ∙ sample-silence frames k)

pub clamped_silence : (frames : ℕ) → silence frames ≡ map clamp (silence frames)
clamped_silence zero = refl
clamped_silence (suc n) = ap (λ (xs : List ℤ). pos 0 ∷ xs) (clamped_silence n)

pub IsSumOf-alone : (x : ℤ) → FitsSigned w32 x → IsSumOf 1 x
IsSumOf-alone x f = record { least = omega (arith, ints); most = omega (arith, ints) }

pub clamped_sums : (frames : ℕ) (parts : List (List ℤ)) → map clamp (sums_of frames parts) ≡ mix frames parts
clamped_sums frames parts = map_twice clamp (λ i. total (map (λ part. sample part i) parts)) (below frames)

pub AreSumsOf-silence : (frames : ℕ) → AreSumsOf 0 (silence frames)
AreSumsOf-silence frames k = subst (λ x. IsSumOf 0 x) (sample-silence frames k) (record { least = omega (arith, ints); most = omega (arith, ints) })

pub IsSumOf-added : (n : ℕ) (x y : ℤ) → IsSumOf n x → FitsSigned w32 y → IsSumOf (n + 1) (x +ℤ y)
IsSumOf-added n x y h f = record { least = omega (arith, ints); most = omega (arith, ints) }

pub small-IsSumOf : (n : ℕ) (x : ℤ) → n ≤ 512 → IsSumOf n x → IsSmall x
small-IsSumOf n x few h = record { least = omega (arith, ints); most = omega (arith, ints) }

-- the first sums are those of a function
abbrev pub AreOf : (ℕ → ℤ) → ℕ → List ℤ → Type 0
AreOf f count sums = (k : ℕ) → k < count → sample sums k ≡ f k

pub more-of : (f : ℕ → ℤ) (count : ℕ) (sums : List ℤ) (x : ℤ) → count < length sums → AreOf f count sums → x ≡ f count → AreOf f (count + 1) (slice_set sums count x)
more-of f count sums x low done is k h = at (nat_lt k count) refl
  where
    at : (b : Bool) → nat_lt k count ≡ b → sample (slice_set sums count x) k ≡ f k
    at true before = get_or-set_other sums count k x (pos 0) (λ e. omega (arith, e, ltb-true k count before)) ∙ done k (ltb-true k count before)
    at false past =
        let here : k ≡ count = omega (arith, h, ltb-false k count past) in
        subst (λ i. sample (slice_set sums count x) i ≡ f i) (sym here) (get_or-set_same sums count x (pos 0) low ∙ is)

pub length-added : (sums part : List ℤ) → length (added sums part) ≡ length sums
length-added sums part = length-map_below (λ i. sample sums i +ℤ sample part i) (length sums)

pub length-all_added : (sums : List ℤ) (parts : List (List ℤ)) → length (all_added sums parts) ≡ length sums
length-all_added sums [] = refl
length-all_added sums (part ∷ parts) = length-all_added (added sums part) parts ∙ length-added sums part

sample-all_added : (sums : List ℤ) (parts : List (List ℤ)) (k : ℕ) → k < length sums → sample (all_added sums parts) k ≡ fold ◌+ℤ◌ (sample sums k) (map (λ part. sample part k) parts)
sample-all_added sums [] k h = refl
sample-all_added sums (part ∷ parts) k h =
    sample-all_added (added sums part) parts k (omega (arith, h, length-added sums part))
    ∙ ap (λ x. fold ◌+ℤ◌ x (map (λ part. sample part k) parts)) (get_or-map_below (λ i. sample sums i +ℤ sample part i) (length sums) k (pos 0) h)

pub all_added-is : (sums new : List ℤ) (parts : List (List ℤ)) → length new ≡ length sums → AreOf (λ k. fold ◌+ℤ◌ (sample sums k) (map (λ part. sample part k) parts)) (length sums) new → new ≡ all_added sums parts
all_added-is sums new parts lengths each =
    ext_get_or (pos 0) new (all_added sums parts) (lengths ∙ sym (length-all_added sums parts))
    (λ k h. each k (omega (arith, h, lengths)) ∙ sym (sample-all_added sums parts k (omega (arith, h, lengths))))

pub sums_of-all_added : (frames : ℕ) (parts more : List (List ℤ)) → all_added (sums_of frames parts) more ≡ sums_of frames (parts ++ more)
sums_of-all_added frames parts [] = ap (sums_of frames) (sym (append-nil parts))
sums_of-all_added frames parts (part ∷ more) =
    ap (λ sums. all_added sums more) (sums_of_added frames parts part)
    ∙ sums_of-all_added frames (parts ++ part ∷ []) more
    ∙ ap (sums_of frames) (append_assoc parts (part ∷ []) more)

IsSumOf-four : (n : ℕ) (x a b c d : ℤ) → IsSumOf n x → FitsSigned w32 a → FitsSigned w32 b → FitsSigned w32 c → FitsSigned w32 d → IsSumOf (n + 4) (fold ◌+ℤ◌ x (a ∷ b ∷ c ∷ d ∷ []))
IsSumOf-four n x a b c d h fa fb fc fd = record { least = omega (arith, ints); most = omega (arith, ints) }

pub AreSumsOf-four : (n : ℕ) (sums one two three four : List ℤ) → AreSumsOf n sums → All AreSamples (one ∷ two ∷ three ∷ four ∷ []) → AreSumsOf (n + 4) (all_added sums (one ∷ two ∷ three ∷ four ∷ []))
AreSumsOf-four n sums one two three four bound fit k = at (nat_lt k (length sums)) refl
  where
    all : List ℤ
    all = all_added sums (one ∷ two ∷ three ∷ four ∷ [])

    at : (b : Bool) → nat_lt k (length sums) ≡ b → IsSumOf (n + 4) (sample all k)
    at true within =
        subst (IsSumOf (n + 4)) (sym (sample-all_added sums (one ∷ two ∷ three ∷ four ∷ []) k (ltb-true k (length sums) within)))
        (IsSumOf-four n (sample sums k) (sample one k) (sample two k) (sample three k) (sample four k) (bound k) (fit 0 [] (omega arith) k) (fit 1 [] (omega arith) k) (fit 2 [] (omega arith) k) (fit 3 [] (omega arith) k))
    at false past =
        subst (IsSumOf (n + 4)) (sym (get_or_past all k (pos 0) (omega (arith, ltb-false k (length sums) past, length-all_added sums (one ∷ two ∷ three ∷ four ∷ [])))))
        (record { least = omega (arith, ints); most = omega (arith, ints) })
