-- Bytes are a WAVE file, or have a fault, and never both.
use Rattle.std.proofs.Common.{◌≡◌, ℕ, zero, suc, ◌+◌, ◌-◌, ◌/◌, ◌%◌, ◌^◌, ◌<◌, ◌≤◌, Bool, true, false, not, ◌&&◌, cond, List, [], ◌∷◌, ◌++◌, length, take, drop, Option, Some, None, refl, sym, ap, subst, ◌∙◌, arith, ℤ, inl, inr, ◌⊎◌, length-append, length-take-le, append_assoc}
use Rattle.std.specs.Prelude.{slice_range, All, flat_map, is_some, codes, if◌then◌else◌, nat_lt, nat_le}
use Rattle.std.specs.Str.{bytes_eq}
use Rattle.std.proofs.lemmas.List.{take_at, drop_at, take-append-drop, drop-drop, length-drop}
use Rattle.std.proofs.lemmas.List.Elements.{All-nil, All-cons, All-head, All-tail, All-take, All-drop, All-same}
use Rattle.std.proofs.Math.Nat.{pow-suc}
use Rattle.std.proofs.lemmas.Option.{cond_some}
use Rattle.std.proofs.lemmas.Bool.{and_parts, and_from, not_from_false, not-true, le-ltb, le-leb, lt-leb, leb-true, leb-false, ltb-false, cond-true, cond-false, and_left, and_right, not-false}
use Rattle.std.proofs.lemmas.Slice.Eq.{bytes_eq-Decides}
use Rattle.session_model.specs.jack_types.specs.declared.files.Format.{Format}
use Rattle.session_model.specs.jack_types.specs.declared.files.WaveFault.{WaveFault}
use Rattle.session_model.specs.jack_types.specs.declared.files.WaveFault.TheVariants.{NotRiff, NotWave, NoFormat, BadFormat, NoData, Ends, TooManyChunks}
use Rattle.session_model.specs.Samples.{number_of, samples_of}
use Rattle.session_model.specs.WaveFiles.{HasWave, HasFault, u32_bytes, u32_at, Test, Chunk, IsChunk, chunk_text, has_id, format_chunk, Parts, parts_text, IsWaveBy, IsWave, chunk_at, Chunks, whole_chunks, failed_test, test_fault, end_fault, begins_data, chunks_fault, or_else, cut_format_fault, wave_fault, format_of, whole_frames}
use Rattle.wave_laws.proofs.WaveSamples.{slice_at, number_of_4, length-bytes_low_first}

-- the faults, with so many chunks at most
abbrev fault_by : ℕ → List ℕ → Option WaveFault
fault_by most bytes =
    if nat_lt (length bytes) 4 then Some (Ends (length bytes))
    else if not (bytes_eq (take 4 bytes) (codes "RIFF")) then Some NotRiff
    else if nat_lt (length bytes) 12 then Some (Ends (length bytes))
    else if not (bytes_eq (slice_range bytes 8 12) (codes "WAVE")) then Some NotWave
    else
    let read = whole_chunks most (drop 12 bytes) in
    chunks_fault (length bytes) (format_chunk read.chunks) read

fault_by-is : (bytes : List ℕ) → wave_fault bytes ≡ fault_by 4096 bytes
fault_by-is bytes = refl

-- a chunk of this size at the front
abbrev pub is_whole : List ℕ → ℕ → Bool
is_whole bytes size = nat_le 8 (length bytes) && not (bytes_eq (take 4 bytes) (codes "data")) && nat_le (8 + size + size % 2) (length bytes)

abbrev pub made : List ℕ → ℕ → Chunk
made bytes size = record { id = take 4 bytes; content = slice_range bytes 8 (8 + size); pad = slice_range bytes (8 + size) (8 + size + size % 2) }

pub chunk_at-is : (bytes : List ℕ) → chunk_at bytes ≡ cond (is_whole bytes (u32_at bytes 4)) (Some (made bytes (u32_at bytes 4))) None
chunk_at-is bytes = refl

-- one more whole chunk, or none
abbrev pub read_by : ℕ → List ℕ → Option Chunk → Chunks
read_by most bytes None = record { chunks = []; rest = bytes }
read_by most bytes (Some chunk) =
    let others = whole_chunks most (drop (length (chunk_text chunk)) bytes) in
    record { chunks = chunk ∷ others.chunks; rest = others.rest }

pub read_by-is : (most : ℕ) (bytes : List ℕ) → whole_chunks (suc most) bytes ≡ read_by most bytes (chunk_at bytes)
read_by-is most bytes = refl

-- four bytes, and the number that they spell
u32_bytes-number_of : (bytes : List ℕ) → length bytes ≡ 4 → All (λ b. b < 256) bytes → u32_bytes (number_of bytes) ≡ bytes
u32_bytes-number_of [] e all = absurd (omega (arith, e))
u32_bytes-number_of (a ∷ []) e all = absurd (omega (arith, e))
u32_bytes-number_of (a ∷ b ∷ []) e all = absurd (omega (arith, e))
u32_bytes-number_of (a ∷ b ∷ c ∷ []) e all = absurd (omega (arith, e))
u32_bytes-number_of (a ∷ b ∷ c ∷ d ∷ []) e all = go a b c d (all 0 0 (omega arith)) (all 1 0 (omega arith)) (all 2 0 (omega arith)) (all 3 0 (omega arith))
  where
    go : (a b c d : ℕ) → a < 256 → b < 256 → c < 256 → d < 256 → u32_bytes (number_of (a ∷ b ∷ c ∷ d ∷ [])) ≡ a ∷ b ∷ c ∷ d ∷ []
    go a b c d h i j k =
        let n = number_of (a ∷ b ∷ c ∷ d ∷ []) in
        let e0 : n % 256 ≡ a = omega arith in
        let e1 : n / 256 % 256 ≡ b = omega arith in
        let e2 : n / 65536 % 256 ≡ c = omega arith in
        let e3 : n / 16777216 % 256 ≡ d = omega arith in
        cc
u32_bytes-number_of (a ∷ b ∷ c ∷ d ∷ x ∷ bytes) e all = absurd (omega (arith, e))

-- a chunk that stands at the front is found there
text_cut : (chunk : Chunk) (tail : List ℕ) → chunk_text chunk ++ tail ≡ chunk.id ++ (u32_bytes (length chunk.content) ++ (chunk.content ++ (chunk.pad ++ tail)))
text_cut chunk tail = simp append_assoc

length-u32_bytes : (n : ℕ) → length (u32_bytes n) ≡ 4
length-u32_bytes n = length-bytes_low_first 0 4 n

pub length-chunk_text : (chunk : Chunk) → IsChunk chunk → length (chunk_text chunk) ≡ 8 + length chunk.content + length chunk.content % 2
length-chunk_text chunk is = simp length-append (omega (arith, is.id, is.pad, length-u32_bytes (length chunk.content)))

-- two numbers behind each other in bytes
pub u32_at-front : (id rest : List ℕ) (n : ℕ) → length id ≡ 4 → n < 2 ^ 32 → u32_at (id ++ (u32_bytes n ++ rest)) 4 ≡ n
u32_at-front id rest n e small = ap number_of (slice_at id (u32_bytes n) rest 4 4 e (length-u32_bytes n)) ∙ number_of_4 n small

regrouped : (a b c d : List ℕ) → a ++ (b ++ (c ++ d)) ≡ a ++ b ++ c ++ d
regrouped a b c d = simp append_assoc

same_chunk : (chunk : Chunk) (id content pad : List ℕ) → id ≡ chunk.id → content ≡ chunk.content → pad ≡ chunk.pad → record { id = id; content = content; pad = pad } ≡ chunk
same_chunk chunk id content pad e f g = rw (e, f, g) refl

chunk_at-chunk_text : (chunk : Chunk) (tail : List ℕ) → IsChunk chunk → has_id (codes "data") chunk ≡ false → chunk_at (chunk_text chunk ++ tail) ≡ Some chunk
chunk_at-chunk_text chunk tail is no_data =
    ap chunk_at (text_cut chunk tail)
    ∙ ap (λ (size : ℕ). cond (is_whole bytes size) (Some (made bytes size)) None) size
    ∙ cond-true (is_whole bytes n) (Some (made bytes n)) None (and_from (nat_le 8 (length bytes) && not (bytes_eq (take 4 bytes) (codes "data"))) (nat_le (8 + n + n % 2) (length bytes))
    (and_from (nat_le 8 (length bytes)) (not (bytes_eq (take 4 bytes) (codes "data"))) (le-leb 8 (length bytes) (omega (arith, long))) (rw id (not_from_false (has_id (codes "data") chunk) no_data)))
    (le-leb (8 + n + n % 2) (length bytes) long))
    ∙ ap Some parts
  where
    n : ℕ
    n = length chunk.content

    bytes : List ℕ
    bytes = chunk.id ++ (u32_bytes n ++ (chunk.content ++ (chunk.pad ++ tail)))

    size : u32_at bytes 4 ≡ n
    size = u32_at-front chunk.id (chunk.content ++ (chunk.pad ++ tail)) n is.id is.content

    id : take 4 bytes ≡ chunk.id
    id = take_at chunk.id (u32_bytes n ++ (chunk.content ++ (chunk.pad ++ tail))) 4 is.id

    long : 8 + n + n % 2 ≤ length bytes
    long = simp length-append (omega (arith, is.id, is.pad, length-u32_bytes n))

    content : slice_range bytes 8 (8 + n) ≡ chunk.content
    content =
        ap (λ (all : List ℕ). slice_range all 8 (8 + n)) (sym (append_assoc chunk.id (u32_bytes n) (chunk.content ++ (chunk.pad ++ tail))))
        ∙ slice_at (chunk.id ++ u32_bytes n) chunk.content (chunk.pad ++ tail) 8 n (simp length-append (omega (arith, is.id, length-u32_bytes n))) refl

    pad : slice_range bytes (8 + n) (8 + n + n % 2) ≡ chunk.pad
    pad =
        ap (λ (all : List ℕ). slice_range all (8 + n) (8 + n + n % 2)) (regrouped chunk.id (u32_bytes n) chunk.content (chunk.pad ++ tail))
        ∙ slice_at (chunk.id ++ u32_bytes n ++ chunk.content) chunk.pad tail (8 + n) (n % 2) (simp length-append (omega (arith, is.id, length-u32_bytes n))) is.pad

    parts : made bytes n ≡ chunk
    parts = same_chunk chunk (take 4 bytes) (slice_range bytes 8 (8 + n)) (slice_range bytes (8 + n) (8 + n + n % 2)) id content pad

-- what whole chunks without `data` are read as
pub whole_chunks-text : (most : ℕ) (chunks : List Chunk) (tail : List ℕ) → length chunks ≤ most → All IsChunk chunks → All (λ chunk. has_id (codes "data") chunk ≡ false) chunks → chunk_at tail ≡ None
    → whole_chunks most (flat_map chunk_text chunks ++ tail) ≡ record { chunks = chunks; rest = tail }
whole_chunks-text zero [] tail few whole no_data ends = refl
whole_chunks-text zero (chunk ∷ chunks) tail few whole no_data ends = absurd (omega arith)
whole_chunks-text (suc most) [] tail few whole no_data ends = ap (read_by most tail) ends
whole_chunks-text (suc most) (chunk ∷ chunks) tail few whole no_data ends =
    let text : flat_map chunk_text (chunk ∷ chunks) ++ tail ≡ chunk_text chunk ++ (flat_map chunk_text chunks ++ tail) = append_assoc (chunk_text chunk) (flat_map chunk_text chunks) tail in
    let rest = flat_map chunk_text chunks ++ tail in
    let others : whole_chunks most rest ≡ record { chunks = chunks; rest = tail } =
    whole_chunks-text most chunks tail (omega arith) (All-tail IsChunk chunk chunks whole) (All-tail (λ c. has_id (codes "data") c ≡ false) chunk chunks no_data) ends in
    ap (whole_chunks (suc most)) text
    ∙ ap (read_by most (chunk_text chunk ++ rest)) (chunk_at-chunk_text chunk rest (All-head IsChunk chunk chunks whole) (All-head (λ c. has_id (codes "data") c ≡ false) chunk chunks no_data))
    ∙ ap (λ (bytes : List ℕ). before chunk (whole_chunks most bytes)) (drop_at (chunk_text chunk) rest (length (chunk_text chunk)) refl)
    ∙ ap (before chunk) others
  where
    before : Chunk → Chunks → Chunks
    before chunk read = record { chunks = chunk ∷ read.chunks; rest = read.rest }

-- ---- a wave has no fault

-- what stands before the chunks, and what follows them
abbrev pub data_text : ℕ → List ℕ → List ℕ
data_text size rest = codes "data" ++ (u32_bytes size ++ rest)

length-data_text : (size : ℕ) (rest : List ℕ) → 8 ≤ length (data_text size rest)
length-data_text size rest = simp length-append (omega (arith, length-u32_bytes size))

chunk_at-data_text : (size : ℕ) (rest : List ℕ) → chunk_at (data_text size rest) ≡ None
chunk_at-data_text size rest =
    let bytes = data_text size rest in
    let n = u32_at bytes 4 in
    cond-false (is_whole bytes n) (Some (made bytes n)) None
    (and_left (nat_le 8 (length bytes) && not (bytes_eq (take 4 bytes) (codes "data"))) (nat_le (8 + n + n % 2) (length bytes))
    (and_right (nat_le 8 (length bytes)) (not (bytes_eq (take 4 bytes) (codes "data"))) refl))

begins_data-data_text : (size : ℕ) (rest : List ℕ) → begins_data (data_text size rest) ≡ true
begins_data-data_text size rest =
    and_from (nat_le 8 (length (data_text size rest))) (bytes_eq (take 4 (data_text size rest)) (codes "data")) (le-leb 8 (length (data_text size rest)) (length-data_text size rest)) refl

abbrev head_text : Parts → List ℕ
head_text parts = codes "RIFF" ++ parts.riff_size ++ codes "WAVE"

pub parts_cut : (parts : Parts) → parts_text parts ≡ head_text parts ++ (flat_map chunk_text parts.chunks ++ data_text parts.size parts.rest)
parts_cut parts = simp append_assoc

length-head_text : (parts : Parts) → length parts.riff_size ≡ 4 → length (head_text parts) ≡ 12
length-head_text parts e = simp length-append (omega (arith, e))

-- what is read of a wave's chunks
pub whole_chunks-wave : (bytes : List ℕ) (format : Format) (samples : List ℤ) (parts : Parts) (fmt : Chunk) → IsWaveBy bytes format samples parts fmt
    → whole_chunks 4096 (drop 12 bytes) ≡ record { chunks = parts.chunks; rest = data_text parts.size parts.rest }
whole_chunks-wave bytes format samples parts fmt is =
    let rest = flat_map chunk_text parts.chunks ++ data_text parts.size parts.rest in
    let behind : drop 12 bytes ≡ rest =
    ap (drop 12) (is.text ∙ parts_cut parts) ∙ drop_at (head_text parts) rest 12 (length-head_text parts is.riff_size) in
    ap (whole_chunks 4096) behind
    ∙ whole_chunks-text 4096 parts.chunks (data_text parts.size parts.rest) (omega (arith, is.few)) is.whole is.no_data (chunk_at-data_text parts.size parts.rest)

passes : (c d e f : Bool) (one two three four last : Option WaveFault) → c ≡ false → d ≡ false → e ≡ false → f ≡ false → cond c one (cond d two (cond e three (cond f four last))) ≡ last
passes c d e f one two three four last h i j k = rw (h, i, j, k) refl

-- the fault behind a first `fmt `, by its first test that fails
abbrev pub by_test : Option Test → Bool → Bool → Option WaveFault
by_test t full data_follows = if is_some t then test_fault t else if full then Some TooManyChunks else if data_follows then None else Some NoData

chunks_pass : (end : ℕ) (fmt : Chunk) (chunks : List Chunk) (size : ℕ) (rest : List ℕ) → failed_test (length fmt.content) fmt.content ≡ None → length chunks ≤ 4095
    → chunks_fault end (Some fmt) (record { chunks = chunks; rest = data_text size rest }) ≡ None
chunks_pass end fmt chunks size rest none few =
    let full = nat_le 4096 (length chunks) in
    let data_follows = begins_data (data_text size rest) in
    ap (λ (t : Option Test). by_test t full data_follows) none
    ∙ cond-false full (Some TooManyChunks) (cond data_follows None (Some NoData)) (lt-leb 4096 (length chunks) (omega (arith, few)))
    ∙ cond-true data_follows None (Some NoData) (begins_data-data_text size rest)

pub wave_fault-wave : (bytes : List ℕ) (format : Format) (samples : List ℤ) → IsWave bytes format samples → wave_fault bytes ≡ None
wave_fault-wave bytes format samples (parts, fmt, is) =
    let body = flat_map chunk_text parts.chunks ++ data_text parts.size parts.rest in
    let text : bytes ≡ codes "RIFF" ++ (parts.riff_size ++ (codes "WAVE" ++ body)) = is.text ∙ simp append_assoc in
    let long : 12 ≤ length bytes = rw text (simp length-append (omega (arith, is.riff_size))) in
    let riff : take 4 bytes ≡ codes "RIFF" = rw text refl in
    let wave : slice_range bytes 8 12 ≡ codes "WAVE" =
    ap (λ (all : List ℕ). slice_range all 8 12) (text ∙ sym (append_assoc (codes "RIFF") parts.riff_size (codes "WAVE" ++ body)))
    ∙ slice_at (codes "RIFF" ++ parts.riff_size) (codes "WAVE") body 8 4 (simp length-append (omega (arith, is.riff_size))) refl in
    let read = whole_chunks 4096 (drop 12 bytes) in
    let e : read ≡ record { chunks = parts.chunks; rest = data_text parts.size parts.rest } = whole_chunks-wave bytes format samples parts fmt is in
    passes (nat_lt (length bytes) 4) (not (bytes_eq (take 4 bytes) (codes "RIFF"))) (nat_lt (length bytes) 12) (not (bytes_eq (slice_range bytes 8 12) (codes "WAVE")))
    (Some (Ends (length bytes))) (Some NotRiff) (Some (Ends (length bytes))) (Some NotWave) (chunks_fault (length bytes) (format_chunk read.chunks) read)
    (le-ltb (length bytes) 4 (omega (arith, long))) (rw riff refl) (le-ltb (length bytes) 12 long) (rw wave refl)
    ∙ ap (λ (r : Chunks). chunks_fault (length bytes) (format_chunk r.chunks) r) e
    ∙ ap (λ (f : Option Chunk). chunks_fault (length bytes) f (record { chunks = parts.chunks; rest = data_text parts.size parts.rest })) is.first_format
    ∙ chunks_pass (length bytes) fmt parts.chunks parts.size parts.rest is.passes is.few

pub one_chunk : (a b : Chunk) → Some a ≡ Some b → a ≡ b
one_chunk a b e = cc

-- the rest behind `data` and its size
pub rest_of : (size : ℕ) (rest : List ℕ) → drop 8 (data_text size rest) ≡ rest
rest_of size rest = drop_at (codes "data" ++ u32_bytes size) rest 8 refl

-- one format, size and rest give one list of samples
pub same_samples : (f g : Format) (m n : ℕ) (v w : List ℕ) → f ≡ g → m ≡ n → v ≡ w → samples_of f.bits (whole_frames f m v) ≡ samples_of g.bits (whole_frames g n w)
same_samples f g m n v w h i j =
    ap (λ (k : Format). samples_of k.bits (whole_frames k m v)) h ∙ ap (λ (k : ℕ). samples_of g.bits (whole_frames g k v)) i ∙ ap (λ (k : List ℕ). samples_of g.bits (whole_frames g n k)) j

-- a wave's format and samples are the only ones
pub wave-same : (bytes : List ℕ) (one two : Format) (xs ys : List ℤ) → IsWave bytes one xs → IsWave bytes two ys → (one ≡ two) × (xs ≡ ys)
wave-same bytes one two xs ys (parts, fmt, is) (others, format, holds) =
    let e : record { chunks = parts.chunks; rest = data_text parts.size parts.rest } ≡ record { chunks = others.chunks; rest = data_text others.size others.rest } =
    sym (whole_chunks-wave bytes one xs parts fmt is) ∙ whole_chunks-wave bytes two ys others format holds in
    let chunks : parts.chunks ≡ others.chunks = ap (λ (read : Chunks). read.chunks) e in
    let tails : data_text parts.size parts.rest ≡ data_text others.size others.rest = ap (λ (read : Chunks). read.rest) e in
    let fmts : Some fmt ≡ Some format = sym is.first_format ∙ ap format_chunk chunks ∙ holds.first_format in
    let sizes : parts.size ≡ others.size =
    sym (u32_at-front (codes "data") parts.rest parts.size refl is.size) ∙ ap (λ (tail : List ℕ). u32_at tail 4) tails ∙ u32_at-front (codes "data") others.rest others.size refl holds.size in
    let rests : parts.rest ≡ others.rest = sym (rest_of parts.size parts.rest) ∙ ap (drop 8) tails ∙ rest_of others.size others.rest in
    let same : fmt ≡ format = one_chunk fmt format fmts in
    let formats : one ≡ two = is.format_is ∙ ap (λ (f : Chunk). format_of f.content) same ∙ sym holds.format_is in
    (formats, is.samples_are ∙ same_samples one two parts.size others.size parts.rest others.rest formats sizes rests ∙ sym holds.samples_are)

-- ---- bytes without a fault are a wave

abbrev pub AreBytes : List ℕ → Type 0
AreBytes bytes = All (λ b. b < 256) bytes

pub cut : (bytes : List ℕ) (i w : ℕ) → drop i bytes ≡ slice_range bytes i (i + w) ++ drop (i + w) bytes
cut bytes i w =
    let count : i + w - i ≡ w = omega arith in
    sym (take-append-drop w (drop i bytes)) ∙ ap (λ (rest : List ℕ). take w (drop i bytes) ++ rest) (drop-drop w i bytes)
    ∙ ap (λ (n : ℕ). take n (drop i bytes) ++ drop (i + w) bytes) (sym count)

pub length-cut : (bytes : List ℕ) (i w : ℕ) → i + w ≤ length bytes → length (slice_range bytes i (i + w)) ≡ w
length-cut bytes i w h =
    let count : i + w - i ≡ w = omega arith in
    let room : i + w - i ≤ length (drop i bytes) = omega (arith, h, length-drop i bytes) in
    length-take-le (i + w - i) (drop i bytes) room ∙ count

bytes-cut : (bytes : List ℕ) (i j : ℕ) → AreBytes bytes → AreBytes (slice_range bytes i j)
bytes-cut bytes i j all = All-take (λ b. b < 256) (j - i) (drop i bytes) (All-drop (λ b. b < 256) i bytes all)

number_of-lt : (bytes : List ℕ) → AreBytes bytes → number_of bytes < 256 ^ length bytes
number_of-lt [] all = omega arith
number_of-lt (b ∷ bytes) all =
    omega (arith, number_of-lt bytes (All-tail (λ c. c < 256) b bytes all), All-head (λ c. c < 256) b bytes all, pow-suc 256 (length bytes))

number_of-4-lt : (bytes : List ℕ) → length bytes ≡ 4 → AreBytes bytes → number_of bytes < 2 ^ 32
number_of-4-lt bytes e all = omega (arith, number_of-lt bytes all, ap (λ (n : ℕ). 256 ^ n) e)

-- a chunk that is found stands at the front
pub record IsFront (bytes : List ℕ) (chunk : Chunk) : Type 0 where
  pub whole : IsChunk chunk
  pub no_data : has_id (codes "data") chunk ≡ false
  pub text : bytes ≡ chunk_text chunk ++ drop (length (chunk_text chunk)) bytes

pub front : (bytes : List ℕ) (n : ℕ) → AreBytes bytes → n ≡ u32_at bytes 4 → is_whole bytes n ≡ true → IsFront bytes (made bytes n)
front bytes n all e holds =
    record { whole = is; no_data = not-true (bytes_eq (take 4 bytes) (codes "data")) two.1; text = text }
  where
    one : ((nat_le 8 (length bytes) && not (bytes_eq (take 4 bytes) (codes "data"))) ≡ true) × (nat_le (8 + n + n % 2) (length bytes) ≡ true)
    one = and_parts (nat_le 8 (length bytes) && not (bytes_eq (take 4 bytes) (codes "data"))) (nat_le (8 + n + n % 2) (length bytes)) holds

    two : (nat_le 8 (length bytes) ≡ true) × (not (bytes_eq (take 4 bytes) (codes "data")) ≡ true)
    two = and_parts (nat_le 8 (length bytes)) (not (bytes_eq (take 4 bytes) (codes "data"))) one.0

    long : 8 + n + n % 2 ≤ length bytes
    long = leb-true (8 + n + n % 2) (length bytes) one.1

    size : length (slice_range bytes 4 8) ≡ 4
    size = length-cut bytes 4 4 (omega (arith, long))

    small : n < 2 ^ 32
    small = omega (arith, e, number_of-4-lt (slice_range bytes 4 8) size (bytes-cut bytes 4 8 all))

    content : length (slice_range bytes 8 (8 + n)) ≡ n
    content = length-cut bytes 8 n (omega (arith, long))

    pad : length (slice_range bytes (8 + n) (8 + n + n % 2)) ≡ n % 2
    pad = length-cut bytes (8 + n) (n % 2) long

    is : IsChunk (made bytes n)
    is = record { id = length-take-le 4 bytes (omega (arith, long)); content = omega (arith, content, small); pad = pad ∙ ap (λ (k : ℕ). k % 2) (sym content) }

    told : u32_bytes (length (slice_range bytes 8 (8 + n))) ≡ slice_range bytes 4 8
    told = ap u32_bytes (content ∙ e) ∙ u32_bytes-number_of (slice_range bytes 4 8) size (bytes-cut bytes 4 8 all)

    total : 8 + n + n % 2 ≡ length (chunk_text (made bytes n))
    total = sym (length-chunk_text (made bytes n) is ∙ ap (λ (k : ℕ). 8 + k + k % 2) content)

    text : bytes ≡ chunk_text (made bytes n) ++ drop (length (chunk_text (made bytes n))) bytes
    text =
        let rest = drop (8 + n + n % 2) bytes in
        sym (take-append-drop 4 bytes)
        ∙ ap (λ (r : List ℕ). take 4 bytes ++ r) (cut bytes 4 4
        ∙ ap (λ (r : List ℕ). slice_range bytes 4 8 ++ r) (cut bytes 8 n ∙ ap (λ (r : List ℕ). slice_range bytes 8 (8 + n) ++ r) (cut bytes (8 + n) (n % 2))))
        ∙ ap (λ (u : List ℕ). take 4 bytes ++ (u ++ (slice_range bytes 8 (8 + n) ++ (slice_range bytes (8 + n) (8 + n + n % 2) ++ rest)))) (sym told)
        ∙ sym (text_cut (made bytes n) rest)
        ∙ ap (λ (k : ℕ). chunk_text (made bytes n) ++ drop k bytes) total

chunk_at-Some : (bytes : List ℕ) (chunk : Chunk) → AreBytes bytes → chunk_at bytes ≡ Some chunk → IsFront bytes chunk
chunk_at-Some bytes chunk all e =
    let n = u32_at bytes 4 in
    let got = cond_some (is_whole bytes n) (made bytes n) chunk e in
    subst (λ (c : Chunk). IsFront bytes c) got.1 (front bytes n all refl got.0)

-- what whole_chunks reads
record IsRead (most : ℕ) (bytes : List ℕ) (read : Chunks) : Type 0 where
  few : length read.chunks ≤ most
  whole : All IsChunk read.chunks
  no_data : All (λ chunk. has_id (codes "data") chunk ≡ false) read.chunks
  text : bytes ≡ flat_map chunk_text read.chunks ++ read.rest

whole_chunks-reads : (most : ℕ) (bytes : List ℕ) → AreBytes bytes → IsRead most bytes (whole_chunks most bytes)
whole_chunks-reads zero bytes all =
    record { few = omega arith; whole = All-nil IsChunk; no_data = All-nil (λ chunk. has_id (codes "data") chunk ≡ false); text = refl }
whole_chunks-reads (suc most) bytes all =
    go (chunk_at bytes) refl (λ chunk. whole_chunks-reads most (drop (length (chunk_text chunk)) bytes) (All-drop (λ b. b < 256) (length (chunk_text chunk)) bytes all))
  where
    go : (found : Option Chunk) → chunk_at bytes ≡ found
        → ((chunk : Chunk) → IsRead most (drop (length (chunk_text chunk)) bytes) (whole_chunks most (drop (length (chunk_text chunk)) bytes)))
        → IsRead (suc most) bytes (read_by most bytes found)
    go None e later = record { few = omega arith; whole = All-nil IsChunk; no_data = All-nil (λ chunk. has_id (codes "data") chunk ≡ false); text = refl }
    go (Some chunk) e later =
        let at : IsFront bytes chunk = chunk_at-Some bytes chunk all e in
        let read = whole_chunks most (drop (length (chunk_text chunk)) bytes) in
        let rest : IsRead most (drop (length (chunk_text chunk)) bytes) read = later chunk in
        record {
          few = omega (arith, rest.few);
          whole = All-cons IsChunk chunk read.chunks at.whole rest.whole;
          no_data = All-cons (λ c. has_id (codes "data") c ≡ false) chunk read.chunks at.no_data rest.no_data;
          text = at.text ∙ ap (λ (t : List ℕ). chunk_text chunk ++ t) rest.text ∙ sym (append_assoc (chunk_text chunk) (flat_map chunk_text read.chunks) read.rest);
        }

-- the conditions that no fault leaves
no_some : {X : Type 0} (x : X) → Some x ≡ None → ⊥
no_some x e = cc

pub cond_none : {X : Type 0} (c : Bool) (x : X) (rest : Option X) → cond c (Some x) rest ≡ None → (c ≡ false) × (rest ≡ None)
cond_none true x rest e = absurd (no_some x e)
cond_none false x rest e = (refl, e)

cond_else_none : {X : Type 0} (c : Bool) (x : X) → cond c None (Some x) ≡ None → c ≡ true
cond_else_none true x e = refl
cond_else_none false x e = absurd (no_some x e)

or_else_some : (first : Option WaveFault) (fault : WaveFault) → or_else first fault ≡ None → ⊥
or_else_some None fault e = no_some fault e
or_else_some (Some other) fault e = no_some other e

end_faulty : (end : ℕ) (rest : List ℕ) → end_fault end rest ≡ None → ⊥
end_faulty end rest e =
    go (nat_le 8 (length rest) && bytes_eq (take 4 rest) (codes "fmt ")) (cut_format_fault end (u32_at rest 4) (drop 8 rest)) e
  where
    go : (c : Bool) (first : Option WaveFault) → cond c (or_else first NoData) (Some NoFormat) ≡ None → ⊥
    go true first h = or_else_some first NoData h
    go false first h = no_some NoFormat h

record Passed (fmt : Chunk) (read : Chunks) : Type 0 where
  passes : failed_test (length fmt.content) fmt.content ≡ None
  few : length read.chunks ≤ 4095
  data_follows : begins_data read.rest ≡ true

by_test-none : (t : Option Test) (full data_follows : Bool) → by_test t full data_follows ≡ None → (t ≡ None) × (full ≡ false) × (data_follows ≡ true)
by_test-none None full data_follows e =
    let h = cond_none full TooManyChunks (cond data_follows None (Some NoData)) e in
    (refl, h.0, cond_else_none data_follows NoData h.1)
by_test-none (Some test) full data_follows e = absurd (no_some (BadFormat test.field test.value) e)

chunks_passed : (end : ℕ) (found : Option Chunk) (read : Chunks) → chunks_fault end found read ≡ None → (fmt : Chunk) × (found ≡ Some fmt) × Passed fmt read
chunks_passed end None read e =
    let h = cond_none (nat_le 4096 (length read.chunks)) TooManyChunks (end_fault end read.rest) e in
    absurd (end_faulty end read.rest h.1)
chunks_passed end (Some fmt) read e =
    let h = by_test-none (failed_test (length fmt.content) fmt.content) (nat_le 4096 (length read.chunks)) (begins_data read.rest) e in
    (fmt, refl, record { passes = h.0; few = omega (arith, leb-false 4096 (length read.chunks) h.1); data_follows = h.2 })

-- a rest that begins with `data` is its text
pub data_follows-is : (rest : List ℕ) → AreBytes rest → begins_data rest ≡ true → (rest ≡ data_text (u32_at rest 4) (drop 8 rest)) × (u32_at rest 4 < 2 ^ 32)
data_follows-is rest all holds =
    let two = and_parts (nat_le 8 (length rest)) (bytes_eq (take 4 rest) (codes "data")) holds in
    let long : 8 ≤ length rest = leb-true 8 (length rest) two.0 in
    let id : take 4 rest ≡ codes "data" = (bytes_eq-Decides (take 4 rest) (codes "data")).0 two.1 in
    let size : length (slice_range rest 4 8) ≡ 4 = length-cut rest 4 4 long in
    let told : u32_bytes (u32_at rest 4) ≡ slice_range rest 4 8 = u32_bytes-number_of (slice_range rest 4 8) size (bytes-cut rest 4 8 all) in (
      sym (take-append-drop 4 rest)
          ∙ ap (λ (r : List ℕ). take 4 rest ++ r) (cut rest 4 4)
          ∙ ap (λ (i : List ℕ). i ++ (slice_range rest 4 8 ++ drop 8 rest)) id
          ∙ ap (λ (u : List ℕ). codes "data" ++ (u ++ drop 8 rest)) (sym told),
      number_of-4-lt (slice_range rest 4 8) size (bytes-cut rest 4 8 all),
    )

pub three_cut : (a b c d : List ℕ) → a ++ (b ++ (c ++ d)) ≡ a ++ b ++ c ++ d
three_cut a b c d = simp append_assoc

-- bytes without a fault are a wave
pub wave-no_fault : (bytes : List ℕ) → AreBytes bytes → wave_fault bytes ≡ None → (format : Format) × (samples : List ℤ) × IsWave bytes format samples
wave-no_fault bytes all none = go (chunks_passed (length bytes) (format_chunk read.chunks) read four.1)
  where
    read : Chunks
    read = whole_chunks 4096 (drop 12 bytes)

    last : Option WaveFault
    last = chunks_fault (length bytes) (format_chunk read.chunks) read

    after_three : Option WaveFault
    after_three = cond (not (bytes_eq (slice_range bytes 8 12) (codes "WAVE"))) (Some NotWave) last

    after_two : Option WaveFault
    after_two = cond (nat_lt (length bytes) 12) (Some (Ends (length bytes))) after_three

    after_one : Option WaveFault
    after_one = cond (not (bytes_eq (take 4 bytes) (codes "RIFF"))) (Some NotRiff) after_two

    one : (nat_lt (length bytes) 4 ≡ false) × (after_one ≡ None)
    one = cond_none (nat_lt (length bytes) 4) (Ends (length bytes)) after_one none

    two : (not (bytes_eq (take 4 bytes) (codes "RIFF")) ≡ false) × (after_two ≡ None)
    two = cond_none (not (bytes_eq (take 4 bytes) (codes "RIFF"))) NotRiff after_two one.1

    three : (nat_lt (length bytes) 12 ≡ false) × (after_three ≡ None)
    three = cond_none (nat_lt (length bytes) 12) (Ends (length bytes)) after_three two.1

    four : (not (bytes_eq (slice_range bytes 8 12) (codes "WAVE")) ≡ false) × (last ≡ None)
    four = cond_none (not (bytes_eq (slice_range bytes 8 12) (codes "WAVE"))) NotWave last three.1

    long : 12 ≤ length bytes
    long = ltb-false (length bytes) 12 three.0

    riff : take 4 bytes ≡ codes "RIFF"
    riff = (bytes_eq-Decides (take 4 bytes) (codes "RIFF")).0 (not-false (bytes_eq (take 4 bytes) (codes "RIFF")) two.0)

    wave : slice_range bytes 8 12 ≡ codes "WAVE"
    wave = (bytes_eq-Decides (slice_range bytes 8 12) (codes "WAVE")).0 (not-false (bytes_eq (slice_range bytes 8 12) (codes "WAVE")) four.0)

    reads : IsRead 4096 (drop 12 bytes) read
    reads = whole_chunks-reads 4096 (drop 12 bytes) (All-drop (λ b. b < 256) 12 bytes all)

    rest_bytes : AreBytes read.rest
    rest_bytes =
        All-same (λ b. b < 256) read.rest (drop (length (flat_map chunk_text read.chunks)) (drop 12 bytes))
        (sym (ap (drop (length (flat_map chunk_text read.chunks))) reads.text ∙ drop_at (flat_map chunk_text read.chunks) read.rest (length (flat_map chunk_text read.chunks)) refl))
        (All-drop (λ b. b < 256) (length (flat_map chunk_text read.chunks)) (drop 12 bytes) (All-drop (λ b. b < 256) 12 bytes all))

    parts : Parts
    parts = record { riff_size = slice_range bytes 4 8; chunks = read.chunks; size = u32_at read.rest 4; rest = drop 8 read.rest }

    text : begins_data read.rest ≡ true → bytes ≡ parts_text parts
    text follows =
        sym (take-append-drop 4 bytes)
        ∙ ap (λ (r : List ℕ). take 4 bytes ++ r) (cut bytes 4 4 ∙ ap (λ (r : List ℕ). slice_range bytes 4 8 ++ r) (cut bytes 8 4))
        ∙ ap (λ (i : List ℕ). i ++ (slice_range bytes 4 8 ++ (slice_range bytes 8 12 ++ drop 12 bytes))) riff
        ∙ ap (λ (w : List ℕ). codes "RIFF" ++ (slice_range bytes 4 8 ++ (w ++ drop 12 bytes))) wave
        ∙ ap (λ (r : List ℕ). codes "RIFF" ++ (slice_range bytes 4 8 ++ (codes "WAVE" ++ r))) reads.text
        ∙ ap (λ (r : List ℕ). codes "RIFF" ++ (slice_range bytes 4 8 ++ (codes "WAVE" ++ (flat_map chunk_text read.chunks ++ r)))) (data_follows-is read.rest rest_bytes follows).0
        ∙ three_cut (codes "RIFF") (slice_range bytes 4 8) (codes "WAVE") (flat_map chunk_text read.chunks ++ data_text parts.size parts.rest)
        ∙ sym (parts_cut parts)

    go : (fmt : Chunk) × (format_chunk read.chunks ≡ Some fmt) × Passed fmt read → (format : Format) × (samples : List ℤ) × IsWave bytes format samples
    go (fmt, found, passed) = (
      format_of fmt.content,
      samples_of (format_of fmt.content).bits (whole_frames (format_of fmt.content) parts.size parts.rest),
      (
        parts,
        fmt,
        record {
          text = text passed.data_follows;
          riff_size = length-cut bytes 4 4 (omega (arith, long));
          size = (data_follows-is read.rest rest_bytes passed.data_follows).1;
          few = passed.few;
          whole = reads.whole;
          no_data = reads.no_data;
          first_format = found;
          passes = passed.passes;
          format_is = refl;
          samples_are = refl;
        },
      ),
    )

pub wave_or_fault : (bytes : List ℕ) → All (λ b. b < 256) bytes → HasWave bytes ⊎ HasFault bytes
wave_or_fault bytes all = go (wave_fault bytes) refl
  where
    go : (found : Option WaveFault) → wave_fault bytes ≡ found → HasWave bytes ⊎ HasFault bytes
    go None e =
        let w = wave-no_fault bytes all e in
        inl (record { format = w.0; samples = w.1; is_wave = w.2; no_fault = e })
    go (Some fault) e =
        inr (record { fault = fault; is_fault = e; no_wave = λ format samples is. no_some fault (sym e ∙ wave_fault-wave bytes format samples is) })
