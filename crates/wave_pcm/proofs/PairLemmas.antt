-- Frames of two channels of 16 bits.
use Rattle.std.proofs.Common.{◌≡◌, Bool, true, false, nat_lt, ℕ, ◌+◌, ◌-◌, ◌*◌, ◌/◌, ◌<◌, ◌≤◌, List, [], ◌∷◌, ◌++◌, length, take, drop, get_or, ℤ, pos, Option, Some, None, refl, sym, ap, ap₂, subst, ◌∙◌, arith}
use Rattle.std.specs.Prelude.{slice_range, Err, IfOk, Ok, Result}
use Rattle.std.specs.Io.KnownBytes.{Consumes, IsAtEnd}
use Rattle.std.proofs.Math.ListN.{set}
use Rattle.std.proofs.lemmas.Bool.{ltb-false, ltb-true}
use Rattle.std.proofs.lemmas.List.{drop-append-le, drop_more, get_or-set_other, get_or-set_same, get_or-take, length-take-le, take-append-drop, take_all}
use Rattle.std.proofs.lemmas.Nat.{div-add-mod', div-mul-add}
use Rattle.samples.specs.jack_types.specs.declared.files.Format.{Format}
use Rattle.samples.specs.session_model.specs.Samples.{sample, samples_of, stored, up}
use Rattle.samples.specs.session_model.specs.WaveFiles.{frame_bytes}
use Rattle.samples.specs.wave_laws.proofs.WaveSamples.{get_or-samples_of, length-samples_of}
use Rattle.wave_pcm.proofs.FrameLemmas.{block_gives}
use Rattle.wave_pcm.specs.Readings.{Gives, GivesPairs, IsReadable, left_of}

-- ---- the bytes of a sample

front_1 : (xs : List ℕ) (i : ℕ) → i < length xs → take 1 (drop i xs) ≡ get_or xs i 0 ∷ []
front_1 xs i h = ap (take 1) (drop_more xs i 0 h)

front_2 : (xs : List ℕ) (i : ℕ) → i + 1 < length xs → take 2 (drop i xs) ≡ get_or xs i 0 ∷ get_or xs (i + 1) 0 ∷ []
front_2 xs i h = ap (take 2) (drop_more xs i 0 (omega arith)) ∙ ap (λ (r : List ℕ). get_or xs i 0 ∷ r) (front_1 xs (i + 1) h)

-- a sample of 16 bits at its place in the bytes
pub sample_at : (bytes : List ℕ) (k i j : ℕ) → k * 2 ≡ i → i + 1 ≡ j → j < length bytes → up 16 (stored 16 (get_or bytes i 0 ∷ get_or bytes j 0 ∷ [])) ≡ sample (samples_of 16 bytes) k
sample_at bytes k i j at next h =
    let n : k * 2 + 2 - k * 2 ≡ 2 = omega arith in
    let there : k < length bytes / 2 = omega arith in
    let piece : slice_range bytes (k * 2) (k * 2 + 2) ≡ get_or bytes i 0 ∷ get_or bytes j 0 ∷ [] =
    ap (λ (m : ℕ). take m (drop (k * 2) bytes)) n ∙ ap (λ (m : ℕ). take 2 (drop m bytes)) at ∙ front_2 bytes i (omega (arith, h, next)) ∙ ap (λ (m : ℕ). get_or bytes i 0 ∷ get_or bytes m 0 ∷ []) next in
    sym (get_or-samples_of 16 bytes k (pos 0) there ∙ ap (λ (p : List ℕ). up 16 (stored 16 p)) piece)

-- one more sample is set
pub set_more : (at : ℕ → ℤ) (xs : List ℤ) (i : ℕ) (x : ℤ) → i < length xs → x ≡ at i → ((k : ℕ) → k < i → get_or xs k (pos 0) ≡ at k) → (k : ℕ) → k < i + 1 → get_or (set xs i x) k (pos 0) ≡ at k
set_more at xs i x fits is before k less = one (nat_lt k i) refl
  where
    one : (b : Bool) → nat_lt k i ≡ b → get_or (set xs i x) k (pos 0) ≡ at k
    one true e =
        let low : k < i = ltb-true k i e in
        get_or-set_other xs i k x (pos 0) (λ same. omega (arith, low, same)) ∙ before k low
    one false e =
        let high : i ≤ k = ltb-false k i e in
        let same : k ≡ i = omega (arith, less, high) in
        ap (λ (n : ℕ). get_or (set xs i x) n (pos 0)) same ∙ get_or-set_same xs i x (pos 0) fits ∙ is ∙ ap at (sym same)

-- ---- frames read at once

-- channels of which the front is what was read
pub pairs_from : (a b : Option (List ℤ)) (got frames : ℕ) (out left right : List ℤ) → Gives a b (got * 2) (frames * 2) out
    → ((k : ℕ) → k < got → sample left k ≡ sample out (k * 2)) → ((k : ℕ) → k < got → sample right k ≡ sample out (k * 2 + 1)) → GivesPairs a b got frames left right
pairs_from None b got frames out left right gives l r = tt
pairs_from (Some samples) b got frames out left right gives l r = record {
  count_is = gives.0;
  one_is = λ k h. l k h ∙ there (k * 2) (omega (arith, h));
  other_is = λ k h. r k h ∙ there (k * 2 + 1) (omega (arith, h));
  after_is = gives.2;
}
  where
    there : (i : ℕ) → i < got * 2 → sample out i ≡ sample samples i
    there i h = sym (get_or-take (got * 2) out i (pos 0) h) ∙ ap (λ (xs : List ℤ). sample xs i) gives.1 ∙ get_or-take (got * 2) samples i (pos 0) h

-- frames of which so many bytes are there
pub pairs_give : (format : Format) (size given frames got n : ℕ) (a b : Option (List ℕ)) (buffer : List ℕ) (left right : List ℤ) → IsReadable format → format.channels ≡ 2 → format.bits ≡ 16
    → length buffer ≡ frames * 4 → given + frames * 4 ≤ size → n ≤ length buffer → Consumes a b (take n buffer) → (n < length buffer → IsAtEnd b) → got ≡ n / 4
    → ((k : ℕ) → k < got → sample left k ≡ sample (samples_of 16 (take (got * 4) buffer)) (k * 2)) → ((k : ℕ) → k < got → sample right k ≡ sample (samples_of 16 (take (got * 4) buffer)) (k * 2 + 1))
    → GivesPairs (left_of format (size - given) a) (left_of format (size - (given + got * 4)) b) got frames left right
pairs_give format size given frames got n a b buffer left right is two bits long room le f end count l r = pairs_from _ _ got frames out left right gives l r
  where
    four : frame_bytes format ≡ 4
    four = ap₂ (λ (c w : ℕ). c * (w / 8)) two bits

    out : List ℤ
    out = samples_of 16 (take (got * 4) buffer)

    fits : got * 4 ≤ length buffer
    fits = omega (arith, ap (λ (k : ℕ). k * 4) count, div-add-mod' n 4, le)

    all : take (got * 2) out ≡ out
    all = take_all (got * 2) out (omega (arith, length-samples_of 16 (take (got * 4) buffer), length-take-le (got * 4) buffer fits, div-mul-add (got * 2) 2 0 (omega arith)))

    gives : Gives (left_of format (size - given) a) (left_of format (size - (given + got * 4)) b) (got * 2) (frames * 2) out
    gives =
        subst (λ (w : ℕ). Gives (left_of format (size - given) a) (left_of format (size - (given + got * w)) b) (got * 2) (frames * 2) out) four
        (subst (λ (c : ℕ). Gives (left_of format (size - given) a) (left_of format (size - (given + got * frame_bytes format)) b) (got * c) (frames * c) out) two
        (block_gives format size given frames got n a b buffer out is (long ∙ ap (λ (w : ℕ). frames * w) (sym four)) (subst (λ (w : ℕ). given + frames * w ≤ size) (sym four) room) le f end (count ∙ ap (λ (w : ℕ). n / w) (sym four))
        (ap (λ (c : ℕ). take (got * c) out) two ∙ all ∙ ap₂ (λ (b w : ℕ). samples_of b (take (got * w) buffer)) (sym bits) (sym four))))

-- what stands behind a front of which a part was set
pub rest_behind : {E : Type 0} (r : Result ℕ E) (out old : List ℤ) (n : ℕ) → n ≤ length old → length out ≡ length (take n old) → IfOk r (λ got. got ≤ length (take n old)) → IfOk r (λ got. drop got out ≡ drop got (take n old))
    → IfOk r (λ got. drop got (out ++ drop n old) ≡ drop got old)
rest_behind (Ok got) out old n fits long few rest =
    drop-append-le got out (drop n old) (omega (arith, few, long))
    ∙ ap (λ (xs : List ℤ). xs ++ drop n old) rest
    ∙ sym (drop-append-le got (take n old) (drop n old) few)
    ∙ ap (drop got) (take-append-drop n old)
rest_behind (Err e) out old n fits long few rest = tt
