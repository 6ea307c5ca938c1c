-- A file that is written: what it keeps, what it has after one piece and after several, and what it is in the end.
use Rattle.std.proofs.Common.{◌≡◌, ℕ, zero, suc, ◌+◌, ◌-◌, ◌*◌, ◌/◌, ◌%◌, ◌<◌, ◌≤◌, List, [], ◌∷◌, ◌++◌, length, take, drop, Some, None, ◌⊎◌, inl, inr, min, Bool, true, false, refl, sym, ap, subst, ◌∙◌, arith, length-append, append_assoc, append-nil, ℤ}
use Rattle.std.specs.Prelude.{All, IfSome, is_some, map, Option, Result, Ok, Err, OnOk, OnErr, replicate, slice_range}
use Rattle.std.specs.Option.{ForSome}
use Rattle.std.specs.Int.{w32}
use Rattle.std.specs.Int.RustNames.{FitsSigned}
use Rattle.std.proofs.Math.Nat.{min-le_right}
use Rattle.std.proofs.lemmas.Bool.{cases_lt}
use Rattle.std.proofs.lemmas.List.{take_all, take-append-le, take-append-drop, length-take, length-take-le}
use Rattle.std.proofs.lemmas.List.Concat.{flat_map-append}
use Rattle.std.proofs.lemmas.Nat.{mul-le}
use Rattle.jack_types.specs.declared.files.Format.{Format}
use Rattle.jack_host.specs.Bytes.{put_at, Holds, Gains}
use Rattle.driver_words.specs.session_model.specs.Samples.{bytes_of, storing, width, up, down}
use Rattle.driver_words.specs.session_model.specs.WaveFiles.{IsFormat, IsWave, is_width, opening_text, file_text, wave_text}
use Rattle.samples.specs.wave_laws.proofs.WaveSamples.{by_width, length-bytes_of}
use Rattle.samples.specs.wave_laws.proofs.WaveWritten.{wave_text-wave}
use Rattle.driver_words.specs.Tapes.{Tape, HasSamples, HasFront, HasUnfinished, AreInOrder, IsCut, IsHeaded, Gained, GainedPart, SameFile, IsKept}
use Rattle.wave_write.specs.Finishing.{Opens, Finished, FinishedPart}
use Rattle.wave_write.proofs.FinishingLemmas.{put_at_end, gains_at_end, header-between, between-opens, none_is_not_some, opens, riff_of, size_of, take_past}

-- ---- what a file keeps

pub kept_more : (format : Format) (a b : Option (List ℕ)) (written place : ℕ) (stopped : Bool) (piece : List ℕ) → IsKept format a written stopped → place ≡ 44 + written → written + length piece ≤ 4294967000
    → Holds a b place piece → IsKept format b (written + length piece) stopped
kept_more format a b written place stopped piece kept at few h =
    record {
      lawful = kept.lawful;
      few = few;
      header = λ going. header a b (kept.header going) (kept.long going) h;
      long = λ going. long a b (kept.long going) h;
    }
  where
    header : (a b : Option (List ℕ)) → ForSome a (λ bytes. take 44 bytes ≡ opening_text format) → ForSome a (λ bytes. length bytes ≡ 44 + written) → Holds a b place piece → ForSome b (λ bytes. take 44 bytes ≡ opening_text format)
    header None None front count h = λ bytes e. absurd (none_is_not_some None bytes refl e)
    header None (Some ys) front count h = absurd h
    header (Some xs) None front count h = absurd h
    header (Some xs) (Some ys) front count h = λ bytes e.
        let is : bytes ≡ ys = cc in
        let long : length xs ≡ 44 + written = count xs refl in
        ap (take 44) (is ∙ h ∙ put_at_end xs piece place (long ∙ sym at)) ∙ take-append-le 44 xs piece (omega (arith, long)) ∙ front xs refl

    long : (a b : Option (List ℕ)) → ForSome a (λ bytes. length bytes ≡ 44 + written) → Holds a b place piece → ForSome b (λ bytes. length bytes ≡ 44 + (written + length piece))
    long None None count h = λ bytes e. absurd (none_is_not_some None bytes refl e)
    long None (Some ys) count h = absurd h
    long (Some xs) None count h = absurd h
    long (Some xs) (Some ys) count h = λ bytes e.
        let is : bytes ≡ ys = cc in
        let before : length xs ≡ 44 + written = count xs refl in
        omega (arith, ap length (is ∙ h ∙ put_at_end xs piece place (before ∙ sym at)), length-append xs piece, before)

-- a piece in an empty store
first_piece : (xs ys piece : List ℕ) → xs ≡ [] → ys ≡ put_at xs 0 piece → ys ≡ piece
first_piece xs ys piece e h = h ∙ put_at_end xs piece 0 (ap length e) ∙ ap (λ (x : List ℕ). x ++ piece) e

pub kept_first : (format : Format) (a b : Option (List ℕ)) (piece : List ℕ) → IsFormat format → ForSome a (λ bytes. bytes ≡ []) → piece ≡ opening_text format → Holds a b 0 piece → IsKept format b 0 false
kept_first format a b piece lawful empty e h =
    record {
      lawful = lawful;
      few = omega arith;
      header = λ going bytes is. ap (take 44) (all a b empty h bytes is);
      long = λ going bytes is. ap length (all a b empty h bytes is);
    }
  where
    all : (a b : Option (List ℕ)) → ForSome a (λ bytes. bytes ≡ []) → Holds a b 0 piece → ForSome b (λ bytes. bytes ≡ opening_text format)
    all None None empty h = λ bytes is. absurd (none_is_not_some None bytes refl is)
    all None (Some ys) empty h = absurd h
    all (Some xs) None empty h = absurd h
    all (Some xs) (Some ys) empty h = λ bytes is.
        let same : bytes ≡ ys = cc in
        same ∙ first_piece xs ys piece (empty xs refl) h ∙ e

pub front_of_header : (format : Format) (a b : Option (List ℕ)) (piece : List ℕ) (k : ℕ) → ForSome a (λ bytes. bytes ≡ []) → piece ≡ opening_text format → k ≤ length piece → Holds a b 0 (take k piece) → IfSome b (IsCut format)
front_of_header format None None piece k empty e le h = tt
front_of_header format None (Some ys) piece k empty e le h = absurd h
front_of_header format (Some xs) None piece k empty e le h = absurd h
front_of_header format (Some xs) (Some ys) piece k empty e le h =
    let is : ys ≡ take k piece = first_piece xs ys (take k piece) (empty xs refl) h in
    let count : length ys ≡ k = ap length is ∙ length-take-le k piece le in
    is ∙ ap (take k) e ∙ ap (λ (n : ℕ). take n (opening_text format)) (sym count)

-- ---- pieces, one after another

pub gained_nothing : (tape : Tape) → Gained tape tape []
gained_nothing tape = record { told = none tape.bytes; written = omega arith }
  where
    none : (told : Option (List ℕ)) → Gains told told []
    none None = tt
    none (Some xs) = sym (append-nil xs)

gains-trans : (a b c : Option (List ℕ)) (xs ys : List ℕ) → Gains a b xs → Gains b c ys → Gains a c (xs ++ ys)
gains-trans None None None xs ys f g = tt
gains-trans (Some os) (Some bs) (Some cs) xs ys f g = g ∙ ap (λ (b : List ℕ). b ++ ys) f ∙ append_assoc os xs ys
gains-trans None (Some bs) c xs ys f g = absurd f
gains-trans (Some os) None c xs ys f g = absurd f
gains-trans None None (Some cs) xs ys f g = absurd g
gains-trans (Some os) (Some bs) None xs ys f g = absurd g

bytes_of-slice : (bits : ℕ) (samples : List ℤ) (at end : ℕ) → at ≤ end → bytes_of bits (take end samples) ≡ bytes_of bits (take at samples) ++ bytes_of bits (slice_range samples at end)
bytes_of-slice bits samples at end le =
    ap (bytes_of bits) (split at end samples le) ∙ flat_map-append (λ x. storing bits (down bits x)) (take at samples) (slice_range samples at end)
  where
    split : (at end : ℕ) (xs : List ℤ) → at ≤ end → take end xs ≡ take at xs ++ slice_range xs at end
    split zero end xs le =
        let e : end ≡ end - 0 = omega arith in
        ap (λ (n : ℕ). take n xs) e
    split (suc at) zero xs le = absurd (omega arith)
    split (suc at) (suc end) [] le = sym (take_all (suc end - suc at) [] (omega arith))
    split (suc at) (suc end) (x ∷ xs) le =
        let e : suc end - suc at ≡ end - at = omega arith in
        ap (λ (ys : List ℤ). x ∷ ys) (split at end xs (omega arith)) ∙ ap (λ (n : ℕ). x ∷ (take at xs ++ take n (drop at xs))) (sym e)

pub gained_more : (a b c : Tape) (bits : ℕ) (samples : List ℤ) (at end : ℕ) → at ≤ end → Gained a b (bytes_of bits (take at samples)) → Gained b c (bytes_of bits (slice_range samples at end)) → Gained a c (bytes_of bits (take end samples))
gained_more a b c bits samples at end le f g =
    subst (λ (xs : List ℕ). Gained a c xs) (sym (bytes_of-slice bits samples at end le))
    (record {
      told = gains-trans a.bytes b.bytes c.bytes _ _ f.told g.told;
      written = omega (arith, f.written, g.written, length-append (bytes_of bits (take at samples)) (bytes_of bits (slice_range samples at end)));
    })

pub gained_part : (a b c : Tape) (bits : ℕ) (samples : List ℤ) (at end : ℕ) → at ≤ end → Gained a b (bytes_of bits (take at samples)) → GainedPart b c (bytes_of bits (slice_range samples at end)) → GainedPart a c (bytes_of bits samples)
gained_part a b c bits samples at end le f g = (
  length one + g.0,
  omega (arith, ap length all, length-append one (two ++ three), length-append two three, g.1),
  subst (λ (xs : List ℕ). Gains a.bytes c.bytes xs) (sym cut) (gains-trans a.bytes b.bytes c.bytes one (take g.0 two) f.told g.2),
)
  where
    one : List ℕ
    one = bytes_of bits (take at samples)

    two : List ℕ
    two = bytes_of bits (slice_range samples at end)

    three : List ℕ
    three = bytes_of bits (drop end samples)

    all : bytes_of bits samples ≡ one ++ (two ++ three)
    all =
        ap (bytes_of bits) (sym (take-append-drop end samples))
        ∙ flat_map-append (λ x. storing bits (down bits x)) (take end samples) (drop end samples)
        ∙ ap (λ (xs : List ℕ). xs ++ three) (bytes_of-slice bits samples at end le)
        ∙ append_assoc one two three

    cut : take (length one + g.0) (bytes_of bits samples) ≡ one ++ take g.0 two
    cut =
        ap (take (length one + g.0)) all ∙ take_past one (two ++ three) g.0
        ∙ ap (λ (xs : List ℕ). one ++ xs) (take-append-le g.0 two three g.1)

pub same_file-trans : (a b c : Tape) → SameFile a b → SameFile b c → SameFile a c
same_file-trans a b c f g =
    record { format = g.format ∙ f.format; name = g.name ∙ f.name; tells = g.tells ∙ f.tells; later = omega (arith, f.later, g.later) }

-- one write has room: so many samples from a place on
pub piece_room : (bits written now : ℕ) (samples : List ℤ) (at n : ℕ) → at + n ≤ length samples → written + length samples * width bits ≤ 4294967000 → now ≡ written + length (bytes_of bits (take at samples)) → now + n * width bits ≤ 4294967000
piece_room bits written now samples at n le room is =
    let count : length (bytes_of bits (take at samples)) ≡ at * width bits = length-bytes_of bits (take at samples) ∙ ap (λ (k : ℕ). k * width bits) (length-take-le at samples (omega (arith, le))) in
    let rows : (at + n) * width bits ≤ length samples * width bits = mul-le (at + n) (width bits) (length samples) (width bits) le (omega arith) in
    omega (arith, is, count, rows, room)

-- the bytes of samples for which there is room
pub bytes_fit : (inside old : Tape) (samples : List ℤ) (piece : List ℕ) → inside ≡ old → piece ≡ bytes_of inside.format.bits samples → old.written + length samples * width old.format.bits ≤ 4294967000
    → inside.written + length piece ≤ 4294967000
bytes_fit inside old samples piece same stored room =
    let count : length piece ≡ length samples * width inside.format.bits = ap length stored ∙ length-bytes_of inside.format.bits samples in
    let fits : inside.written + length samples * width inside.format.bits ≤ 4294967000 = subst (λ (t : Tape). t.written + length samples * width t.format.bits ≤ 4294967000) (sym same) room in
    omega (arith, count, fits)

-- a write behind the last byte appends what it writes
pub gained_by_write : (inside old new : Tape) (samples : List ℤ) (piece : List ℕ) (place : ℕ) → inside ≡ old → piece ≡ bytes_of inside.format.bits samples → place ≡ 44 + inside.written
    → ForSome inside.bytes (λ bytes. length bytes ≡ 44 + inside.written) → new.written ≡ inside.written + length piece → Holds inside.bytes new.bytes place piece → Gained old new (bytes_of old.format.bits samples)
gained_by_write inside old new samples piece place same stored at long more h =
    subst (λ (t : Tape). Gained t new (bytes_of t.format.bits samples)) same
    (subst (λ (bytes : List ℕ). Gained inside new bytes) stored
    (record { told = gains_at_end inside.bytes new.bytes place piece (λ bytes is. long bytes is ∙ sym at) h; written = more }))

pub part_by_write : (inside old new : Tape) (samples : List ℤ) (piece : List ℕ) (place k : ℕ) → inside ≡ old → piece ≡ bytes_of inside.format.bits samples → place ≡ 44 + inside.written
    → ForSome inside.bytes (λ bytes. length bytes ≡ 44 + inside.written) → k ≤ length piece → Holds inside.bytes new.bytes place (take k piece) → GainedPart old new (bytes_of old.format.bits samples)
part_by_write inside old new samples piece place k same stored at long le h =
    subst (λ (t : Tape). GainedPart t new (bytes_of t.format.bits samples)) same
    (subst (λ (bytes : List ℕ). GainedPart inside new bytes) stored
    (k, le, gains_at_end inside.bytes new.bytes place (take k piece) (λ bytes is. long bytes is ∙ sym at) h))

-- how many samples one write takes
pub most_by_width : (bits : ℕ) → is_width bits ≡ true → (0 < 4096 / width bits) × (4096 / width bits ≤ 4096) × (4096 / width bits * width bits ≤ 4096)
most_by_width bits wide =
    by_width (λ (b : ℕ). (0 < 4096 / width b) × (4096 / width b ≤ 4096) × (4096 / width b * width b ≤ 4096)) bits wide
    (omega arith, omega arith, omega arith) (omega arith, omega arith, omega arith) (omega arith, omega arith, omega arith) (omega arith, omega arith, omega arith)

-- ---- the samples of a file

pub samples_more : {T E : Type 0} (r : Result T E) (a b : Tape) (samples : List ℤ) → SameFile a b → OnOk r (Gained a b (bytes_of a.format.bits samples)) → OnOk r (b.stopped ≡ false)
    → OnOk r ((before : List ℤ) → HasSamples a before → HasSamples b (before ++ samples))
samples_more (Err e) a b samples same gained going = tt
samples_more (Ok v) a b samples same gained going = λ before has.
    record { going = going; bytes = go a.bytes b.bytes before gained.told has.bytes }
  where
    go : (told now : Option (List ℕ)) (before : List ℤ) → Gains told now (bytes_of a.format.bits samples) → IfSome told (λ bytes. bytes ≡ opening_text a.format ++ bytes_of a.format.bits before)
        → IfSome now (λ bytes. bytes ≡ opening_text b.format ++ bytes_of b.format.bits (before ++ samples))
    go None None before f h = tt
    go None (Some ys) before f h = absurd f
    go (Some xs) None before f h = absurd f
    go (Some xs) (Some ys) before f h =
        f ∙ ap (λ (x : List ℕ). x ++ bytes_of a.format.bits samples) h
        ∙ append_assoc (opening_text a.format) (bytes_of a.format.bits before) (bytes_of a.format.bits samples)
        ∙ ap (λ (x : List ℕ). opening_text a.format ++ x) (sym (flat_map-append (λ x. storing a.format.bits (down a.format.bits x)) before samples))
        ∙ ap (λ (f : Format). opening_text f ++ bytes_of f.bits (before ++ samples)) (sym same.format)

-- a front is no longer than the whole
front-short : (whole front : List ℕ) → front ≡ take (length front) whole → length front ≤ length whole
front-short whole front is =
    let short : length front ≡ min (length front) (length whole) = ap length is ∙ length-take (length front) whole in
    subst (λ n. n ≤ length whole) (sym short) (min-le_right (length front) (length whole))

-- behind a put that failed
pub unfinished_more : {T E : Type 0} (r : Result T E) (a b : Tape) (samples : List ℤ) → OnErr r (GainedPart a b (bytes_of a.format.bits samples))
    → OnErr r ((before : List ℤ) → HasSamples a before → HasUnfinished a.format (before ++ samples) b.bytes)
unfinished_more (Ok v) a b samples part = tt
unfinished_more (Err e) a b samples part = λ before has. go a.bytes b.bytes before part.2 has.bytes
  where
    go : (told now : Option (List ℕ)) (before : List ℤ) → Gains told now (take part.0 (bytes_of a.format.bits samples)) → IfSome told (λ bytes. bytes ≡ opening_text a.format ++ bytes_of a.format.bits before)
        → HasUnfinished a.format (before ++ samples) now
    go None None before f h = tt
    go None (Some ys) before f h = absurd f
    go (Some xs) None before f h = absurd f
    go (Some xs) (Some ys) before f h = subst (λ (bytes : List ℕ). bytes ≡ take (length bytes) all) (sym is) front
      where
        one : List ℕ
        one = opening_text a.format ++ bytes_of a.format.bits before

        two : List ℕ
        two = bytes_of a.format.bits samples

        all : List ℕ
        all = opening_text a.format ++ bytes_of a.format.bits (before ++ samples)

        is : ys ≡ one ++ take part.0 two
        is = f ∙ ap (λ (x : List ℕ). x ++ take part.0 two) h

        all-is : all ≡ one ++ two
        all-is = ap (λ (x : List ℕ). opening_text a.format ++ x) (flat_map-append (λ x. storing a.format.bits (down a.format.bits x)) before samples)
            ∙ sym (append_assoc (opening_text a.format) (bytes_of a.format.bits before) two)

        front : one ++ take part.0 two ≡ take (length (one ++ take part.0 two)) all
        front =
            sym (take_past one two part.0)
            ∙ ap (λ n. take n (one ++ two)) (sym (length-append one (take part.0 two) ∙ ap (λ n. length one + n) (length-take-le part.0 two part.1)))
            ∙ ap (take (length (one ++ take part.0 two))) (sym all-is)

-- a file that has samples is not finished
pub samples-unfinished : (tape : Tape) (samples : List ℤ) → HasSamples tape samples → HasUnfinished tape.format samples tape.bytes
samples-unfinished tape samples has = go tape.bytes has.bytes
  where
    go : (told : Option (List ℕ)) → IfSome told (λ bytes. bytes ≡ opening_text tape.format ++ bytes_of tape.format.bits samples) → HasUnfinished tape.format samples told
    go None h = tt
    go (Some bytes) h = sym (ap (take (length bytes)) (sym h) ∙ take_all (length bytes) bytes (omega arith))

-- a front of an unfinished file is one of each longer one
pub unfinished-longer : (format : Format) (samples more : List ℤ) (told : Option (List ℕ)) → HasUnfinished format samples told → HasUnfinished format (samples ++ more) told
unfinished-longer format samples more None h = tt
unfinished-longer format samples more (Some bytes) h = h ∙ sym (ap (take (length bytes)) all-is ∙ take-append-le (length bytes) one two short)
  where
    one : List ℕ
    one = opening_text format ++ bytes_of format.bits samples

    two : List ℕ
    two = bytes_of format.bits more

    all-is : opening_text format ++ bytes_of format.bits (samples ++ more) ≡ one ++ two
    all-is = ap (λ (x : List ℕ). opening_text format ++ x) (flat_map-append (λ x. storing format.bits (down format.bits x)) samples more)
        ∙ sym (append_assoc (opening_text format) (bytes_of format.bits samples) two)

    short : length bytes ≤ length one
    short = front-short one bytes h

-- and it is one of the finished file
pub unfinished-front : (format : Format) (samples : List ℤ) (told : Option (List ℕ)) → HasUnfinished format samples told → HasFront format samples told
unfinished-front format samples None h = tt
unfinished-front format samples (Some bytes) h = go (cases_lt (length bytes) 44)
  where
    opening : List ℕ
    opening = opening_text format

    body : List ℕ
    body = bytes_of format.bits samples

    pad : List ℕ
    pad = replicate (length body % 2) 0

    opening-long : length opening ≡ 44
    opening-long = refl

    short : length bytes ≤ 44 + length body
    short = let low = front-short (opening ++ body) bytes h in omega (arith, low, length-append opening body, opening-long)

    go : (length bytes < 44) ⊎ (44 ≤ length bytes) → IsCut format bytes ⊎ IsHeaded opening (wave_text format samples) bytes
    go (inl low) = inl (h ∙ take-append-le (length bytes) opening body (omega (arith, low, opening-long)))
    go (inr high) =
        let split : length bytes ≡ length opening + (length bytes - 44) = omega (arith, high, opening-long) in
        inr (
          opening,
          length bytes - 44,
          header-between format body opens opens (between-opens (riff_of body) refl) (between-opens (size_of body) refl),
          h ∙ ap (λ n. take n (opening ++ body)) split ∙ take_past opening body (length bytes - 44)
              ∙ ap (λ (x : List ℕ). opening ++ x) (sym (take-append-le (length bytes - 44) body pad (omega (arith, short, high)))),
        )

-- ---- the finished file

opens_as : (format : Format) (xs body : List ℕ) → xs ≡ opening_text format ++ body → Opens format xs
opens_as format xs body e = e ∙ ap (λ (b : List ℕ). opening_text format ++ b) (sym (ap (drop 44) e))

finished_text : (tape : Tape) (samples : List ℤ) (told now : Option (List ℕ)) → Finished told now → IfSome told (λ bytes. bytes ≡ opening_text tape.format ++ bytes_of tape.format.bits samples) → IfSome now (λ text. text ≡ wave_text tape.format samples)
finished_text tape samples None None f h = tt
finished_text tape samples None (Some ys) f h = absurd f
finished_text tape samples (Some xs) None f h = absurd f
finished_text tape samples (Some xs) (Some ys) f h =
    f tape.format (opens_as tape.format xs (bytes_of tape.format.bits samples) h) ∙ ap (file_text tape.format) (ap (drop 44) h)

-- finishing leaves a store that tells one that tells
pub finish_tells : {T E : Type 0} (r : Result T E) (told now : Option (List ℕ)) → OnOk r (Finished told now) → OnErr r (FinishedPart told now) → is_some now ≡ is_some told
finish_tells r None None f p = refl
finish_tells r (Some xs) (Some ys) f p = refl
finish_tells (Ok v) None (Some ys) f p = absurd f
finish_tells (Ok v) (Some xs) None f p = absurd f
finish_tells (Err e) None (Some ys) f p = absurd p
finish_tells (Err e) (Some xs) None f p = absurd p

pub finish_text : {T E : Type 0} (r : Result T E) (tape : Tape) (now : Option (List ℕ)) → OnOk r (Finished tape.bytes now) → OnOk r ((samples : List ℤ) → HasSamples tape samples → IfSome now (λ text. text ≡ wave_text tape.format samples))
finish_text (Err e) tape now f = tt
finish_text (Ok v) tape now f = λ samples has. finished_text tape samples tape.bytes now f has.bytes

pub finish_front : {T E : Type 0} (r : Result T E) (tape : Tape) (now : Option (List ℕ)) → OnErr r (FinishedPart tape.bytes now) → OnErr r ((samples : List ℤ) → HasSamples tape samples → HasFront tape.format samples now)
finish_front (Ok v) tape now f = tt
finish_front (Err e) tape now f = λ samples has. go tape.bytes now samples f has.bytes
  where
    go : (told now : Option (List ℕ)) (samples : List ℤ) → FinishedPart told now → IfSome told (λ bytes. bytes ≡ opening_text tape.format ++ bytes_of tape.format.bits samples) → HasFront tape.format samples now
    go None None samples f h = tt
    go None (Some ys) samples f h = absurd f
    go (Some xs) None samples f h = absurd f
    go (Some xs) (Some ys) samples f h =
        inr (subst (λ (body : List ℕ). IsHeaded (opening_text tape.format) (file_text tape.format body) ys) (ap (drop 44) h) (f tape.format (opens_as tape.format xs (bytes_of tape.format.bits samples) h)).0)

pub finish_order : {T E : Type 0} (r : Result T E) (tape : Tape) (now : Option (List ℕ)) → OnErr r (FinishedPart tape.bytes now)
    → OnErr r ((samples : List ℤ) → HasSamples tape samples → IfSome now (AreInOrder (opening_text tape.format) (wave_text tape.format samples)))
finish_order (Ok v) tape now f = tt
finish_order (Err e) tape now f = λ samples has. go tape.bytes now samples f has.bytes
  where
    go : (told now : Option (List ℕ)) (samples : List ℤ) → FinishedPart told now → IfSome told (λ bytes. bytes ≡ opening_text tape.format ++ bytes_of tape.format.bits samples)
        → IfSome now (AreInOrder (opening_text tape.format) (wave_text tape.format samples))
    go None None samples f h = tt
    go None (Some ys) samples f h = absurd f
    go (Some xs) None samples f h = absurd f
    go (Some xs) (Some ys) samples f h =
        subst (λ (body : List ℕ). AreInOrder (opening_text tape.format) (file_text tape.format body) ys) (ap (drop 44) h) (f tape.format (opens_as tape.format xs (bytes_of tape.format.bits samples) h)).1

pub finish_wave : {T E : Type 0} (r : Result T E) (tape : Tape) (now : Option (List ℕ)) → IsKept tape.format tape.bytes tape.written tape.stopped → OnOk r (Finished tape.bytes now)
    → OnOk r ((samples : List ℤ) → HasSamples tape samples → length samples % tape.format.channels ≡ 0 → All (FitsSigned w32) samples
    → IfSome now (λ text. IsWave text tape.format (map (λ x. up tape.format.bits (down tape.format.bits x)) samples)))
finish_wave (Err e) tape now kept f = tt
finish_wave (Ok v) tape now kept f = λ samples has whole fit.
    told samples now tape.bytes refl has whole fit (finished_text tape samples tape.bytes now f has.bytes) f
  where
    told : (samples : List ℤ) (now before : Option (List ℕ)) → before ≡ tape.bytes → HasSamples tape samples → length samples % tape.format.channels ≡ 0 → All (FitsSigned w32) samples → IfSome now (λ text. text ≡ wave_text tape.format samples)
        → Finished before now → IfSome now (λ text. IsWave text tape.format (map (λ x. up tape.format.bits (down tape.format.bits x)) samples))
    told samples None before is has whole fit text f = tt
    told samples (Some ys) None is has whole fit text f = absurd f
    told samples (Some ys) (Some xs) is has whole fit text f =
        let all : xs ≡ opening_text tape.format ++ bytes_of tape.format.bits samples = subst (λ (o : Option (List ℕ)). IfSome o (λ bytes. bytes ≡ opening_text tape.format ++ bytes_of tape.format.bits samples)) (sym is) has.bytes in
        let long : length xs ≡ 44 + tape.written = kept.long has.going xs (sym is) in
        let front : length (opening_text tape.format) ≡ 44 = refl in
        let few : length samples * width tape.format.bits ≤ 4294967000 =
        omega (arith, ap length all, length-append (opening_text tape.format) (bytes_of tape.format.bits samples), front, long, length-bytes_of tape.format.bits samples, kept.few) in
        subst (λ (t : List ℕ). IsWave t tape.format (map (λ x. up tape.format.bits (down tape.format.bits x)) samples)) (sym text)
        (wave_text-wave tape.format samples kept.lawful (record { whole = whole; few = few }) fit)
