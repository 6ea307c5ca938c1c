-- What is written is a WAVE file, finished or not.
use Rattle.std.proofs.Common.{◌≡◌, ℕ, ◌+◌, ◌*◌, ◌/◌, ◌%◌, ◌^◌, ◌<◌, ◌≤◌, min, Bool, true, false, not, ◌&&◌, ◌||◌, cond, List, [], ◌∷◌, ◌++◌, length, take, map, Some, None, refl, sym, ap, subst, ◌∙◌, arith, ℤ, length-append, append_assoc, eq-eqb}
use Rattle.std.specs.Prelude.{All, codes, replicate, ◌==◌, nat_le}
use Rattle.std.specs.Int.{w32}
use Rattle.std.specs.Int.RustNames.{FitsSigned}
use Rattle.std.proofs.lemmas.List.{take_at}
use Rattle.std.proofs.lemmas.List.Elements.{All-nil, All-cons}
use Rattle.std.proofs.lemmas.Bool.{le-leb, and_from, or_left, not_from_false, ne_eqb}
use Rattle.std.proofs.lemmas.Nat.{div-mul-add, div-add-mod', mul-le, mul-lt}
use Rattle.session_model.specs.jack_types.specs.declared.files.Format.{Format}
use Rattle.session_model.specs.Samples.{width, up, down, samples_of, bytes_of}
use Rattle.session_model.specs.WaveFiles.{IsFormat, AreWritable, u16_bytes, u32_bytes, u16_at, u32_at, Chunk, IsChunk, has_id, IsWave, is_width, is_extended, Test, failed_test, format_of, frame_bytes, whole_frames, header_text, wave_text, opening_text}
use Rattle.wave_laws.proofs.WaveSamples.{number_of_2, number_of_4, width_some, by_width, length-bytes_of, samples_of-bytes_of}

-- the content of its `fmt ` chunk
abbrev fmt_content : Format → List ℕ
fmt_content format =
    u16_bytes 1 ++ u16_bytes format.channels ++ u32_bytes format.rate ++ u32_bytes (format.rate * frame_bytes format) ++ u16_bytes (frame_bytes format) ++ u16_bytes format.bits

abbrev fmt_chunk : Format → Chunk
fmt_chunk format = record { id = codes "fmt "; content = fmt_content format; pad = [] }

-- what the fields of a content say
record Says (content : List ℕ) (format : Format) : Type 0 where
  tag : u16_at content 0 ≡ 1
  channels : u16_at content 2 ≡ format.channels
  rate : u32_at content 4 ≡ format.rate
  align : u16_at content 12 ≡ frame_bytes format
  bits : u16_at content 14 ≡ format.bits

width_most : (bits : ℕ) → is_width bits ≡ true → width bits ≤ 4
width_most bits wide = by_width (λ b. width b ≤ 4) bits wide (omega arith) (omega arith) (omega arith) (omega arith)

bits_most : (bits : ℕ) → is_width bits ≡ true → bits ≤ 32
bits_most bits wide = by_width (λ b. b ≤ 32) bits wide (omega arith) (omega arith) (omega arith) (omega arith)

frame_most : (format : Format) → IsFormat format → frame_bytes format ≤ 64
frame_most format is = omega (arith, mul-le format.channels (width format.bits) 16 4 is.most_channels (width_most format.bits is.bits))

fmt_content-says : (format : Format) → IsFormat format → Says (fmt_content format) format
fmt_content-says format is =
    record {
      tag = refl;
      channels = number_of_2 format.channels (omega (arith, is.most_channels));
      rate = number_of_4 format.rate (omega (arith, is.most_rate));
      align = number_of_2 (frame_bytes format) (omega (arith, frame_most format is));
      bits = number_of_2 format.bits (omega (arith, bits_most format.bits is.bits));
    }

none_fails : (a b c d e f g h : Bool) (t u v w x y z s : Test) → a ≡ true → b ≡ true → c ≡ true → d ≡ true → e ≡ true → f ≡ true → g ≡ true → h ≡ true
    → cond (not a) (Some t) (cond (not b) (Some u) (cond (not c) (Some v) (cond (not d) (Some w) (cond (not e) (Some x) (cond (not f) (Some y) (cond (not g) (Some z) (cond (not h) (Some s) None))))))) ≡ None
none_fails a b c d e f g h t u v w x y z s i j k l m n o p = rw (i, j, k, l, m, n, o, p) refl

tests_pass : (content : List ℕ) (format : Format) → IsFormat format → Says content format → failed_test 16 content ≡ None
tests_pass content format is says =
    none_fails _ _ _ _ _ _ _ _ _ _ _ _ _ _ _ _ tag channels rate bits align (plain _) (plain _) (plain _)
  where
    tag : (u16_at content 0 == 1 || is_extended content) ≡ true
    tag = or_left (u16_at content 0 == 1) (is_extended content) (eq-eqb (u16_at content 0) 1 says.tag)

    channels : (nat_le 1 (u16_at content 2) && nat_le (u16_at content 2) 16) ≡ true
    channels = and_from (nat_le 1 (u16_at content 2)) (nat_le (u16_at content 2) 16) (le-leb 1 (u16_at content 2) (omega (arith, says.channels, is.least_channels))) (le-leb (u16_at content 2) 16 (omega (arith, says.channels, is.most_channels)))

    rate : nat_le 1 (u32_at content 4) ≡ true
    rate = le-leb 1 (u32_at content 4) (omega (arith, says.rate, is.least_rate))

    bits : is_width (u16_at content 14) ≡ true
    bits = subst (λ (b : ℕ). is_width b ≡ true) (sym says.bits) is.bits

    align : (u16_at content 12 == u16_at content 2 * width (u16_at content 14)) ≡ true
    align =
        eq-eqb (u16_at content 12) (u16_at content 2 * width (u16_at content 14))
        (says.align ∙ sym (ap (λ (n : ℕ). n * width (u16_at content 14)) says.channels ∙ ap (λ (n : ℕ). format.channels * width n) says.bits))

    extended : is_extended content ≡ false
    extended = ne_eqb (u16_at content 0) 0xfffe (λ e. omega (arith, e, says.tag))

    plain : (other : Bool) → (not (is_extended content) || other) ≡ true
    plain other = or_left (not (is_extended content)) other (not_from_false (is_extended content) extended)

format_of-says : (content : List ℕ) (format : Format) → Says content format → format ≡ format_of content
format_of-says content format says = rw (says.rate, says.channels, says.bits) refl

-- a header, whatever its RIFF size, and what follows it
pub header-wave : (format : Format) (riff_size : List ℕ) (size : ℕ) (rest : List ℕ) → IsFormat format → length riff_size ≡ 4 → size < 2 ^ 32
    → IsWave (header_text format riff_size (u32_bytes size) ++ rest) format (samples_of format.bits (whole_frames format size rest))
header-wave format riff_size size rest is four small = (
  record { riff_size = riff_size; chunks = fmt_chunk format ∷ []; size = size; rest = rest },
  fmt_chunk format,
  record {
    text = refl;
    riff_size = four;
    size = small;
    few = omega arith;
    whole = All-cons IsChunk (fmt_chunk format) [] (record { id = refl; content = omega arith; pad = refl }) (All-nil IsChunk);
    no_data = All-cons (λ chunk. has_id (codes "data") chunk ≡ false) (fmt_chunk format) [] refl (All-nil (λ chunk. has_id (codes "data") chunk ≡ false));
    first_format = refl;
    passes = tests_pass (fmt_content format) format is (fmt_content-says format is);
    format_is = format_of-says (fmt_content format) format (fmt_content-says format is);
    samples_are = refl;
  },
)

-- a file that is not finished is a wave, of the whole frames that it holds so far
pub opening-wave : (format : Format) (rest : List ℕ) → IsFormat format → IsWave (opening_text format ++ rest) format (samples_of format.bits (whole_frames format 0xffffffff rest))
opening-wave format rest is = header-wave format (replicate 4 0xff) 0xffffffff rest is refl (omega arith)

mul-pos : (a b : ℕ) → 0 < a → 0 < b → 0 < a * b
mul-pos a b h k = mul-lt 0 0 a b h k

whole_frames-all : (format : Format) (bytes pad : List ℕ) (frames : ℕ) → 0 < frame_bytes format → length bytes ≡ frames * frame_bytes format → whole_frames format (length bytes) (bytes ++ pad) ≡ bytes
whole_frames-all format bytes pad frames some e =
    let least : min (length bytes) (length (bytes ++ pad)) ≡ length bytes = omega (arith, length-append bytes pad) in
    let quotient : length bytes / frame_bytes format ≡ frames = ap (λ (n : ℕ). n / frame_bytes format) (e ∙ omega arith) ∙ div-mul-add frames (frame_bytes format) 0 some in
    ap (λ (n : ℕ). take (n / frame_bytes format * frame_bytes format) (bytes ++ pad)) least
    ∙ ap (λ (n : ℕ). take (n * frame_bytes format) (bytes ++ pad)) quotient
    ∙ take_at bytes pad (frames * frame_bytes format) e

-- what is written is a wave, of the samples but for the bits that the width leaves out
pub wave_text-wave : (format : Format) (samples : List ℤ) → IsFormat format → AreWritable format samples → All (FitsSigned w32) samples → IsWave (wave_text format samples) format (map (λ x. up format.bits (down format.bits x)) samples)
wave_text-wave format samples is are fit =
    subst (λ (text : List ℕ). IsWave text format (map (λ x. up format.bits (down format.bits x)) samples)) (sym (append_assoc header bytes pad))
    (subst (λ (told : List ℤ). IsWave (header ++ (bytes ++ pad)) format told) told
    (header-wave format (u32_bytes (36 + length bytes + length bytes % 2)) (length bytes) (bytes ++ pad) is refl small))
  where
    bytes : List ℕ
    bytes = bytes_of format.bits samples

    pad : List ℕ
    pad = replicate (length bytes % 2) 0

    header : List ℕ
    header = header_text format (u32_bytes (36 + length bytes + length bytes % 2)) (u32_bytes (length bytes))

    count : length bytes ≡ length samples * width format.bits
    count = length-bytes_of format.bits samples

    small : length bytes < 2 ^ 32
    small = omega (arith, count, are.few)

    frames : ℕ
    frames = length samples / format.channels

    all_frames : length samples ≡ frames * format.channels
    all_frames = omega (arith, div-add-mod' (length samples) format.channels, are.whole)

    some : 0 < frame_bytes format
    some = mul-pos format.channels (width format.bits) is.least_channels (width_some format.bits is.bits)

    made : length bytes ≡ frames * frame_bytes format
    made = count ∙ ap (λ (n : ℕ). n * width format.bits) all_frames ∙ omega arith

    told : samples_of format.bits (whole_frames format (length bytes) (bytes ++ pad)) ≡ map (λ x. up format.bits (down format.bits x)) samples
    told = ap (samples_of format.bits) (whole_frames-all format bytes pad frames some made) ∙ samples_of-bytes_of format.bits samples is.bits fit
