-- The parts of an input, and their mix.
--     sums-padded      a part counts as far as there are frames
--     mix-alone      a part that is mixed alone is copied
--     IsMixed, mixed-more, mixed-all, mixed-none      samples that are mixed frame by frame
--     sample_past, silence_first      silence behind a part's end, and before a sum
use Rattle.std.proofs.Common.{◌≡◌, ℕ, ◌+◌, ◌<◌, ◌≤◌, Bool, true, false, List, [], ◌∷◌, ◌++◌, length, map, filter, take, get_or, ℤ, pos, negsuc, ◌+ℤ◌, refl, sym, ◌∙◌, ap, subst, arith, add-one}
use Rattle.std.specs.Int.{w32}
use Rattle.std.specs.Prelude.{FitsSigned, if◌then◌else◌, nat_lt, slice_set}
use Rattle.std.proofs.lemmas.Bool.{ltb-false, ltb-true}
use Rattle.std.proofs.lemmas.Int.{ints}
use Rattle.std.proofs.lemmas.List.{ext_get_or, get_or_past, get_or-set_other, get_or-set_same}
use Rattle.std.proofs.Math.Seq.{take-suc}
use Rattle.activation.specs.session_model.specs.Samples.{clamp, mix, sample, total}
use Rattle.activation.specs.session_laws.proofs.ActivationLemmas.{get_or-map_below, length-map_below}
use Rattle.client_benches.proofs.SliceLemmas.{map_below-same, map_more}
use Rattle.client_kinds.specs.port_mixer.specs.Sums.{AreSamples, sums_of}

pub take-next : {X : Type 0} (xs : List X) (i : ℕ) (d : X) → i < length xs → take (i + 1) xs ≡ take i xs ++ get_or xs i d ∷ []
take-next xs i d low = ap (λ n. take n xs) (add-one i) ∙ take-suc xs i d low

-- a list that is filtered with one more at its end
pub filter-more : {X : Type 0} (test : X → Bool) (xs : List X) (x : X) → test x ≡ true → filter test (xs ++ x ∷ []) ≡ filter test xs ++ x ∷ []
filter-more test [] x h = ap (λ b. if b then x ∷ [] else []) h
filter-more test (y ∷ ys) x h = go (test y) (filter-more test ys x h)
  where
    go : (b : Bool) → filter test (ys ++ x ∷ []) ≡ filter test ys ++ x ∷ [] → (if b then y ∷ filter test (ys ++ x ∷ []) else filter test (ys ++ x ∷ [])) ≡ (if b then y ∷ filter test ys else filter test ys) ++ x ∷ []
    go true same = ap (λ l. y ∷ l) same
    go false same = same

pub filter-same : {X : Type 0} (test : X → Bool) (xs : List X) (x : X) → test x ≡ false → filter test (xs ++ x ∷ []) ≡ filter test xs
filter-same test [] x h = ap (λ b. if b then x ∷ [] else []) h
filter-same test (y ∷ ys) x h = go (test y) (filter-same test ys x h)
  where
    go : (b : Bool) → filter test (ys ++ x ∷ []) ≡ filter test ys → (if b then y ∷ filter test (ys ++ x ∷ []) else filter test (ys ++ x ∷ [])) ≡ (if b then y ∷ filter test ys else filter test ys)
    go true same = ap (λ l. y ∷ l) same
    go false same = same

-- parts with the same samples within these frames have the same sums
pub sums-padded : (frames : ℕ) (parts : List (List ℤ)) (part other : List ℤ) → ((k : ℕ) → k < frames → sample part k ≡ sample other k) → sums_of frames (parts ++ part ∷ []) ≡ sums_of frames (parts ++ other ∷ [])
sums-padded frames parts part other same = map_below-same
    (λ i. total (map (λ part. sample part i) (parts ++ part ∷ [])))
    (λ i. total (map (λ part. sample part i) (parts ++ other ∷ [])))
    frames
    (λ i h. ap total (map_more (λ part. sample part i) parts part ∙ ap (λ x. map (λ part. sample part i) parts ++ x ∷ []) (same i h) ∙ sym (map_more (λ part. sample part i) parts other)))

-- a part is added as what fills all frames
pub added-padded : (frames : ℕ) (sums new padded part : List ℤ) → length padded ≡ frames → ((k : ℕ) → k < frames → sample padded k ≡ sample part k)
    → ((parts : List (List ℤ)) → sums ≡ sums_of (length padded) parts → new ≡ sums_of (length padded) (parts ++ padded ∷ []))
    → (parts : List (List ℤ)) → sums ≡ sums_of frames parts → new ≡ sums_of frames (parts ++ part ∷ [])
added-padded frames sums new padded part long same adds parts before =
    subst (λ n. sums ≡ sums_of n parts → new ≡ sums_of n (parts ++ padded ∷ [])) long (adds parts) before
    ∙ sums-padded frames parts padded part same

pub length-mix : (frames : ℕ) (parts : List (List ℤ)) → length (mix frames parts) ≡ frames
length-mix frames parts = length-map_below (λ i. clamp (total (map (λ part. sample part i) parts))) frames

-- a sample is its own clamp
clamp-sample : (x : ℤ) → FitsSigned w32 x → clamp (pos 0 +ℤ x) ≡ x
clamp-sample (pos n) fits = grind (arith, ints)
clamp-sample (negsuc n) fits = grind (arith, ints)

pub sample-alone : (frames : ℕ) (part : List ℤ) (k : ℕ) → k < frames → AreSamples part → sample (mix frames (part ∷ [])) k ≡ sample part k
sample-alone frames part k within small = get_or-map_below (λ i. clamp (total (map (λ part. sample part i) (part ∷ [])))) frames k (pos 0) within ∙ clamp-sample (sample part k) (small k)

-- the mix of a part alone is the part, with silence behind its end
pub mix-alone : (frames : ℕ) (samples part : List ℤ) → length samples ≡ frames → ((k : ℕ) → k < frames → sample samples k ≡ sample part k) → AreSamples part → samples ≡ mix frames (part ∷ [])
mix-alone frames samples part long same small =
    ext_get_or (pos 0) samples (mix frames (part ∷ [])) (long ∙ sym (length-mix frames (part ∷ [])))
    (λ k h. same k (omega (arith, h, long)) ∙ sym (sample-alone frames part k (omega (arith, h, long)) small))

-- silence before a sample adds nothing to it
pub silence_first : (x : ℤ) → x ≡ pos 0 +ℤ x
silence_first x = grind (arith, ints)

-- the first samples are those of the mix of these parts
abbrev pub IsMixed : ℕ → List ℤ → List (List ℤ) → Type 0
IsMixed count samples parts = (k : ℕ) → k < count → sample samples k ≡ clamp (total (map (λ part. sample part k) parts))

pub mixed-all : (frames count : ℕ) (samples : List ℤ) (parts : List (List ℤ)) → length samples ≡ frames → frames ≤ count → IsMixed count samples parts → samples ≡ mix frames parts
mixed-all frames count samples parts long all done =
    ext_get_or (pos 0) samples (mix frames parts) (long ∙ sym (length-mix frames parts))
    (λ k h. done k (omega (arith, h, long, all)) ∙ sym (get_or-map_below (λ i. clamp (total (map (λ part. sample part i) parts))) frames k (pos 0) (omega (arith, h, long))))

pub mixed-more : (count : ℕ) (samples : List ℤ) (parts : List (List ℤ)) (x : ℤ) → count < length samples → IsMixed count samples parts → x ≡ clamp (total (map (λ part. sample part count) parts))
    → IsMixed (count + 1) (slice_set samples count x) parts
mixed-more count samples parts x low done is k h = at (nat_lt k count) refl
  where
    at : (b : Bool) → nat_lt k count ≡ b → sample (slice_set samples count x) k ≡ clamp (total (map (λ part. sample part k) parts))
    at true before = get_or-set_other samples count k x (pos 0) (λ e. omega (arith, e, ltb-true k count before)) ∙ done k (ltb-true k count before)
    at false past =
        let here : k ≡ count = omega (arith, h, ltb-false k count past) in
        subst (λ i. sample (slice_set samples count x) i ≡ clamp (total (map (λ part. sample part i) parts))) (sym here) (get_or-set_same samples count x (pos 0) low ∙ is)

pub sample_past : (part : List ℤ) (k : ℕ) → length part ≤ k → pos 0 ≡ sample part k
sample_past part k past = sym (get_or_past part k (pos 0) past)

-- silence is mixed from no part
pub mixed-none : (frames : ℕ) (samples : List ℤ) → length samples ≡ frames → ((k : ℕ) → k < frames → sample samples k ≡ pos 0) → samples ≡ mix frames []
mixed-none frames samples long each = mixed-all frames frames samples [] long (omega arith) each
