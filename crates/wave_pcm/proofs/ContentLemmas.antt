-- The content of a `fmt ` chunk, of which its tests read a front.
use Rattle.std.proofs.Common.{◌≡◌, ℕ, ◌+◌, ◌<◌, ◌≤◌, Bool, true, false, not, ◌&&◌, ◌||◌, cond, List, ◌++◌, length, take, drop, Some, None, refl, sym, ap, subst, ◌∙◌, arith, length-append, append_assoc}
use Rattle.std.specs.Prelude.{IfSome, Option, slice_range, ◌==◌, nat_le, nat_lt}
use Rattle.std.specs.Io.KnownBytes.{Consumes}
use Rattle.std.proofs.lemmas.List.{length-drop, length-take-le, take-append-drop, take_all}
use Rattle.std.proofs.lemmas.Bool.{and_from, and_parts, cond-false, cond-true, cond_both, le-leb, le-ltb, leb-true, lt-ltb, not-false}
use Rattle.samples.specs.jack_types.specs.declared.files.WaveFault.{WaveFault}
use Rattle.samples.specs.jack_types.specs.declared.files.WaveFault.TheVariants.{BadFormat, Ends}
use Rattle.samples.specs.jack_types.specs.declared.files.Field.TheVariants.{Size}
use Rattle.samples.specs.session_model.specs.Samples.{number_of}
use Rattle.samples.specs.session_model.specs.WaveFiles.{cut_format_fault, failed_test, format_of, is_extended, is_width, needed, Test, test_fault, u16_at, u32_at}
use Rattle.samples.specs.wave_laws.proofs.WaveFormats.{failed_test-front, format_of-front, slice_front}
use Rattle.samples.specs.wave_laws.proofs.WaveFaults.{cond_none}
use Rattle.wave_pcm.specs.Contents.{IsTestedBy}
use Rattle.wave_pcm.specs.Readings.{IsReadable}
use Rattle.wave_pcm.specs.Steps.{Drops}
use Rattle.wave_pcm.proofs.InputLemmas.{drops-consumes, drops-trans}

-- ---- how much is needed

needs_less : (size : ℕ) (content : List ℕ) (n : ℕ) → 40 ≤ n → needed size content ≤ n
needs_less size content n h = cond_both (is_extended content && nat_le 40 size) 40 16 (λ k. k ≤ n) (λ _. h) (λ _. omega (arith, h))

pub short_of_16 : (size : ℕ) (content : List ℕ) → length content < 16 → nat_lt (length content) (needed size content) ≡ true
short_of_16 size content h =
    lt-ltb (length content) (needed size content) (cond_both (is_extended content && nat_le 40 size) 40 16 (λ k. length content < k) (λ _. omega (arith, h)) (λ _. h))

-- the tag of a content is that of its front
tag_of : (front rest : List ℕ) → 16 ≤ length front → u16_at (front ++ rest) 0 ≡ u16_at front 0
tag_of front rest h = ap number_of (slice_front front rest 0 2 (omega (arith, h)))

-- the first 16 bytes of 40 that were read
record HasFront (read : List ℕ) : Type 0 where
  long : length (take 16 read) ≡ 16
  split : read ≡ take 16 read ++ drop 16 read
  tag : u16_at read 0 ≡ u16_at (take 16 read) 0

has_front : (read : List ℕ) → length read ≡ 40 → HasFront read
has_front read e =
    let long : length (take 16 read) ≡ 16 = length-take-le 16 read (omega (arith, e)) in
    let split : read ≡ take 16 read ++ drop 16 read = sym (take-append-drop 16 read) in
    record {
      long = long;
      split = split;
      tag = ap (λ (bytes : List ℕ). u16_at bytes 0) split ∙ tag_of (take 16 read) (drop 16 read) (omega (arith, long));
    }

plain_read : (size : ℕ) (content read rest : List ℕ) → length read ≡ 40 → content ≡ take 16 read ++ rest → (u16_at read 0 == 0xfffe && nat_le 40 size) ≡ false → IsTestedBy size content read
plain_read size content read rest e is short =
    record {
      long =
          ap (nat_lt (length content)) (cond-false (is_extended content && nat_le 40 size) 40 16 (ap (λ (t : ℕ). t == 0xfffe && nat_le 40 size) tag ∙ short))
          ∙ le-ltb (length content) 16 (omega (arith, ap length is, length-append front rest, front_is.long));
      tests = ap (failed_test size) is ∙ failed_test-front size front rest (omega (arith, front_is.long)) never ∙ sym (ap (failed_test size) front_is.split ∙ failed_test-front size front (drop 16 read) (omega (arith, front_is.long)) never);
      format = ap format_of is ∙ format_of-front front rest (omega (arith, front_is.long)) ∙ sym (ap format_of front_is.split ∙ format_of-front front (drop 16 read) (omega (arith, front_is.long)));
    }
  where
    front : List ℕ
    front = take 16 read

    front_is : HasFront read
    front_is = has_front read e

    tag : u16_at content 0 ≡ u16_at read 0
    tag = ap (λ (bytes : List ℕ). u16_at bytes 0) is ∙ tag_of front rest (omega (arith, front_is.long)) ∙ sym front_is.tag

    never : is_extended front ≡ true → 40 ≤ size → 40 ≤ length front
    never extended long =
        absurd (clash (u16_at read 0 == 0xfffe && nat_le 40 size) (and_from (u16_at read 0 == 0xfffe) (nat_le 40 size) (ap (λ (t : ℕ). t == 0xfffe) front_is.tag ∙ extended) (le-leb 40 size long)) short)
      where
        clash : (b : Bool) → b ≡ true → b ≡ false → ⊥
        clash b p q = cc

whole_read : (size : ℕ) (content read rest : List ℕ) → length read ≡ 40 → content ≡ read ++ rest → IsTestedBy size content read
whole_read size content read rest e is =
    let long : length content ≡ 40 + length rest = ap length is ∙ length-append read rest ∙ ap (λ (n : ℕ). n + length rest) e in
    record {
      long = le-ltb (length content) (needed size content) (needs_less size content (length content) (omega (arith, long)));
      tests = ap (failed_test size) is ∙ failed_test-front size read rest (omega (arith, e)) (λ _ _. omega (arith, e));
      format = ap format_of is ∙ format_of-front read rest (omega (arith, e));
    }

cut_read : (size : ℕ) (content read rest : List ℕ) → length read ≡ 40 → content ≡ take 16 read ++ rest → length rest < 24 → (u16_at read 0 == 0xfffe && nat_le 40 size) ≡ true → nat_lt (length content) (needed size content) ≡ true
cut_read size content read rest e is few long =
    ap (nat_lt (length content)) (cond-true (is_extended content && nat_le 40 size) 40 16 (ap (λ (t : ℕ). t == 0xfffe && nat_le 40 size) tag ∙ long))
    ∙ lt-ltb (length content) 40 (omega (arith, ap length is, length-append (take 16 read) rest, front_is.long, few))
  where
    front_is : HasFront read
    front_is = has_front read e

    tag : u16_at content 0 ≡ u16_at read 0
    tag = ap (λ (bytes : List ℕ). u16_at bytes 0) is ∙ tag_of (take 16 read) rest (omega (arith, front_is.long)) ∙ sym front_is.tag

-- ---- the same, where the source tells

pub plain_told : (size : ℕ) (a b : Option (List ℕ)) (read : List ℕ) → length read ≡ 40 → Consumes a b (take 16 read) → (u16_at read 0 == 0xfffe && nat_le 40 size) ≡ false → IfSome a (λ told. IsTestedBy size told read)
plain_told size None b read e h short = tt
plain_told size (Some xs) None read e h short = absurd h
plain_told size (Some xs) (Some ys) read e h short = plain_read size xs read ys e h short

pub whole_told : (size : ℕ) (a b c : Option (List ℕ)) (first read : List ℕ) → length read ≡ 40 → take 16 read ≡ take 16 first → Consumes a b (take 16 first) → Consumes b c (slice_range read 16 40) → IfSome a (λ told. IsTestedBy size told read)
whole_told size None b c first read e same f g = tt
whole_told size (Some xs) None c first read e same f g = absurd f
whole_told size (Some xs) (Some ys) None first read e same f g = absurd g
whole_told size (Some xs) (Some ys) (Some zs) first read e same f g = whole_read size xs read zs e (all (slice_range read 16 40) (take_all 24 (drop 16 read) (omega (arith, length-drop 16 read, e))) g)
  where
    all : (back : List ℕ) → back ≡ drop 16 read → ys ≡ back ++ zs → xs ≡ read ++ zs
    all back is h =
        f ∙ ap (λ (x : List ℕ). x ++ ys) (sym same) ∙ ap (λ (y : List ℕ). take 16 read ++ y) (h ∙ ap (λ (x : List ℕ). x ++ zs) is)
        ∙ sym (append_assoc (take 16 read) (drop 16 read) zs) ∙ ap (λ (x : List ℕ). x ++ zs) (take-append-drop 16 read)

pub cut_told : (size read_before : ℕ) (a : Option (List ℕ)) (fault : WaveFault) → IfSome a (λ told. (length told < 16) × (fault ≡ Ends (read_before + length told)))
    → IfSome a (λ told. (nat_lt (length told) (needed size told) ≡ true) × (fault ≡ Ends (read_before + length told)))
cut_told size read_before None fault h = tt
cut_told size read_before (Some xs) fault h = (short_of_16 size xs h.0, h.1)

pub cut_later : (size read_before : ℕ) (a b : Option (List ℕ)) (first : List ℕ) (fault : WaveFault) → length first ≡ 40 → Consumes a b (take 16 first) → (u16_at first 0 == 0xfffe && nat_le 40 size) ≡ true
    → IfSome b (λ told. (length told < 24) × (fault ≡ Ends (read_before + 16 + length told)))
    → IfSome a (λ told. (nat_lt (length told) (needed size told) ≡ true) × (fault ≡ Ends (read_before + length told)))
cut_later size read_before None b first fault e f long h = tt
cut_later size read_before (Some xs) None first fault e f long h = absurd f
cut_later size read_before (Some xs) (Some ys) first fault e f long h =
    let count : read_before + 16 + length ys ≡ read_before + length xs = omega (arith, ap length f, length-append (take 16 first) ys, (has_front first e).long) in
    (cut_read size xs first ys e f h.0 long, h.1 ∙ ap Ends count)

pub content_taken : (a b c : Option (List ℕ)) (first read : List ℕ) → length first ≡ 40 → length read ≡ 40 → Consumes a b (take 16 first) → Consumes b c (slice_range read 16 40) → Drops a c 40
content_taken a b c first read e f g h =
    drops-trans a b c 16 24 (drops-consumes a b (take 16 first) 16 (has_front first e).long g)
    (drops-consumes b c (slice_range read 16 40) 24 (length-take-le 24 (drop 16 read) (omega (arith, length-drop 16 read, f))) h)

-- ---- the fault of a content

pub too_small : (end size : ℕ) (a : Option (List ℕ)) → size < 16 → IfSome a (λ content. cut_format_fault (end + length content) size content ≡ Some (BadFormat Size size))
too_small end size None h = tt
too_small end size (Some xs) h = cond-true (nat_lt size 16) (Some (BadFormat Size size)) _ (lt-ltb size 16 h)

behind_size : (end size : ℕ) (content : List ℕ) → 16 ≤ size → cut_format_fault end size content ≡ cond (nat_lt (length content) (needed size content)) (Some (Ends end)) (test_fault (failed_test size content))
behind_size end size content h = cond-false (nat_lt size 16) (Some (BadFormat Size size)) _ (le-ltb size 16 h)

pub is_cut : (end size : ℕ) (a : Option (List ℕ)) (fault : WaveFault) → 16 ≤ size → IfSome a (λ told. (nat_lt (length told) (needed size told) ≡ true) × (fault ≡ Ends (end + length told)))
    → IfSome a (λ content. cut_format_fault (end + length content) size content ≡ Some fault)
is_cut end size None fault h k = tt
is_cut end size (Some xs) fault h k =
    behind_size (end + length xs) size xs h ∙ cond-true (nat_lt (length xs) (needed size xs)) (Some (Ends (end + length xs))) (test_fault (failed_test size xs)) k.0 ∙ ap Some (sym k.1)

pub is_tested : (end size : ℕ) (a : Option (List ℕ)) (read : List ℕ) → 16 ≤ size → IfSome a (λ told. IsTestedBy size told read) → IfSome a (λ content. cut_format_fault (end + length content) size content ≡ test_fault (failed_test size read))
is_tested end size None read h k = tt
is_tested end size (Some xs) read h k =
    behind_size (end + length xs) size xs h ∙ cond-false (nat_lt (length xs) (needed size xs)) (Some (Ends (end + length xs))) (test_fault (failed_test size xs)) k.long ∙ ap test_fault k.tests

pub with_fault : (end size : ℕ) (a : Option (List ℕ)) (told fault : Option WaveFault) → told ≡ fault → IfSome a (λ content. cut_format_fault (end + length content) size content ≡ told) → IfSome a (λ content. cut_format_fault (end + length content) size content ≡ fault)
with_fault end size a told fault e h = subst (λ (f : Option WaveFault). IfSome a (λ content. cut_format_fault (end + length content) size content ≡ f)) e h

pub tested_format : (end size : ℕ) (a : Option (List ℕ)) (read : List ℕ) (fault : Option WaveFault) → 16 ≤ size → IfSome a (λ told. IsTestedBy size told read) → test_fault (failed_test size read) ≡ fault → fault ≡ None
    → IfSome a (λ content. (cut_format_fault (end + length content) size content ≡ None) × (format_of read ≡ format_of content))
tested_format end size None read fault h k e f = tt
tested_format end size (Some xs) read fault h k e f = (is_tested end size (Some xs) read h k ∙ e ∙ f, sym k.format)

no_test : (test : Option Test) → test_fault test ≡ None → test ≡ None
no_test None e = refl
no_test (Some test) e = absurd (clash (BadFormat test.field test.value) e)
  where
    clash : (f : WaveFault) → Some f ≡ None → ⊥
    clash f h = cc

pub readable : (size : ℕ) (content : List ℕ) → test_fault (failed_test size content) ≡ None → IsReadable (format_of content)
readable size content e =
    let sized = cond_none (not (nat_le 16 size)) _ _ (no_test (failed_test size content) e) in
    let tagged = cond_none (not (u16_at content 0 == 1 || is_extended content)) _ _ sized.1 in
    let channels = cond_none (not (nat_le 1 (u16_at content 2) && nat_le (u16_at content 2) 16)) _ _ tagged.1 in
    let rated = cond_none (not (nat_le 1 (u32_at content 4))) _ _ channels.1 in
    let bits = cond_none (not (is_width (u16_at content 14))) _ _ rated.1 in
    let both = and_parts (nat_le 1 (u16_at content 2)) (nat_le (u16_at content 2) 16) (not-false (nat_le 1 (u16_at content 2) && nat_le (u16_at content 2) 16) channels.0) in
    record {
      least_channels = leb-true 1 (u16_at content 2) both.0;
      most_channels = leb-true (u16_at content 2) 16 both.1;
      least_rate = leb-true 1 (u32_at content 4) (not-false (nat_le 1 (u32_at content 4)) rated.0);
      bits = not-false (is_width (u16_at content 14)) bits.0;
    }
