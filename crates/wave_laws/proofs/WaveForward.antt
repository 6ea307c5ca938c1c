-- A WAVE file that is read forward gives what its definition says.
use Rattle.std.proofs.Common.{◌≡◌, ℕ, zero, suc, ◌+◌, ◌%◌, ◌<◌, ◌≤◌, Bool, true, false, not, ◌&&◌, cond, List, [], ◌∷◌, length, take, drop, Option, Some, None, Result, Ok, Err, refl, sym, ap, subst, ◌∙◌, arith, ℤ, ⊎_elim}
use Rattle.std.specs.Prelude.{slice_range, All, codes, if◌then◌else◌, nat_lt, nat_le}
use Rattle.std.specs.Str.{bytes_eq}
use Rattle.std.proofs.lemmas.List.Elements.{All-drop}
use Rattle.std.proofs.lemmas.Bool.{cases_lt, cases_Bool, and_left, and_right, and_from, not_from_true, not_from_false, lt-ltb, le-ltb, le-leb, lt-leb, leb-true, cond-true, cond-false, not-false}
use Rattle.std.proofs.lemmas.Slice.Eq.{bytes_eq-Decides}
use Rattle.session_model.specs.jack_types.specs.declared.files.Format.{Format}
use Rattle.session_model.specs.jack_types.specs.declared.files.Field.TheVariants.{Size}
use Rattle.session_model.specs.jack_types.specs.declared.files.WaveFault.{WaveFault}
use Rattle.session_model.specs.jack_types.specs.declared.files.WaveFault.TheVariants.{NotRiff, NotWave, NoFormat, BadFormat, NoData, Ends, TooManyChunks}
use Rattle.session_model.specs.WaveFiles.{u32_at, Test, Chunk, has_id, chunk_text, format_chunk, chunk_at, Chunks, whole_chunks, failed_test, test_fault, cut_format_fault, or_else, end_fault, begins_data, chunks_fault, wave_fault, format_of, IsWave}
use Rattle.session_model.specs.WaveOpening.{fault_in, wave_in, Opened, Step, ended, at_data, skip, tested, at_other, step, forward, opened}
use Rattle.session_model.specs.WaveOpening.Step.{Stop, Go}
use Rattle.wave_laws.proofs.WaveFaults.{data_text, u32_at-front, one_chunk, rest_of, same_samples, whole_chunks-wave, wave-no_fault, is_whole, made, read_by, by_test, AreBytes, IsFront, front, length-chunk_text, cut, length-cut, cond_none}
use Rattle.wave_laws.proofs.WaveFormats.{cut_format_fault-whole, format_of-front}

-- the fault of what is read from a chunk on
abbrev past : ℕ → Chunks → Option WaveFault
past most read = if nat_le most (length read.chunks) then Some TooManyChunks else if begins_data read.rest then None else Some NoData

abbrev start : ℕ → ℕ → Option Chunk → Chunks → Option WaveFault
start most end None read = if nat_le most (length read.chunks) then Some TooManyChunks else end_fault end read.rest
start most end (Some fmt) read = by_test (failed_test (length fmt.content) fmt.content) (nat_le most (length read.chunks)) (begins_data read.rest)

abbrev fault_of : Option Format → ℕ → ℕ → Chunks → Option WaveFault
fault_of (Some format) most end read = past most read
fault_of None most end read = start most end (format_chunk read.chunks) read

start-is : (end : ℕ) (found : Option Chunk) (read : Chunks) → chunks_fault end found read ≡ start 4096 end found read
start-is end None read = refl
start-is end (Some fmt) read = refl

-- where the format comes from
abbrev Gives : Option Format → Format → List Chunk → Type 0
Gives (Some found) format chunks = format ≡ found
Gives None format chunks = (fmt : Chunk) × (format_chunk chunks ≡ Some fmt) × (format ≡ format_of fmt.content)

record IsOpened (found : Option Format) (most end : ℕ) (told : Opened) (read : Chunks) : Type 0 where
  no_fault : fault_of found most end read ≡ None
  size : told.size ≡ u32_at read.rest 4
  rest : told.rest ≡ drop 8 read.rest
  format : Gives found told.format read.chunks

abbrev Agrees : Option Format → ℕ → ℕ → Result Opened WaveFault → Chunks → Type 0
Agrees found most end (Ok told) read = IsOpened found most end told read
Agrees found most end (Err fault) read = fault_of found most end read ≡ Some fault

conclude : (found : Option Format) (most end : ℕ) (r s : Result Opened WaveFault) (c d : Chunks) → r ≡ s → c ≡ d → Agrees found most end s d → Agrees found most end r c
conclude found most end r s c d e f h =
    subst (λ (x : Result Opened WaveFault). Agrees found most end x c) (sym e) (subst (λ (x : Chunks). Agrees found most end s x) (sym f) h)

-- ---- one more chunk in front

abbrev with_chunk : Chunk → Chunks → Chunks
with_chunk chunk read = record { chunks = chunk ∷ read.chunks; rest = read.rest }

leb-suc : (m n : ℕ) → nat_le (suc m) (suc n) ≡ nat_le m n
leb-suc m n =
    ⊎_elim (λ (h : m < suc n). le-leb (suc m) (suc n) (omega (arith, h)) ∙ sym (le-leb m n (omega (arith, h))))
    (λ (h : suc n ≤ m). lt-leb (suc m) (suc n) (omega (arith, h)) ∙ sym (lt-leb m n (omega (arith, h))))
    (cases_lt m (suc n))

past-more : (most : ℕ) (chunk : Chunk) (read : Chunks) → past (suc most) (with_chunk chunk read) ≡ past most read
past-more most chunk read =
    ap (λ (b : Bool). cond b (Some TooManyChunks) (cond (begins_data read.rest) None (Some NoData))) (leb-suc most (length read.chunks))

start-more : (most end : ℕ) (chunk : Chunk) (found : Option Chunk) (read : Chunks) → start (suc most) end found (with_chunk chunk read) ≡ start most end found read
start-more most end chunk None read =
    ap (λ (b : Bool). cond b (Some TooManyChunks) (end_fault end read.rest)) (leb-suc most (length read.chunks))
start-more most end chunk (Some fmt) read =
    ap (λ (b : Bool). by_test (failed_test (length fmt.content) fmt.content) b (begins_data read.rest)) (leb-suc most (length read.chunks))

more_found : (format : Format) (most end : ℕ) (r : Result Opened WaveFault) (chunk : Chunk) (read : Chunks) → Agrees (Some format) most end r read → Agrees (Some format) (suc most) end r (with_chunk chunk read)
more_found format most end (Ok told) chunk read h = record { no_fault = past-more most chunk read ∙ h.no_fault; size = h.size; rest = h.rest; format = h.format }
more_found format most end (Err fault) chunk read h = past-more most chunk read ∙ h

is_format : Chunk → Bool
is_format chunk = has_id (codes "fmt ") chunk

more_none : (most end : ℕ) (r : Result Opened WaveFault) (chunk : Chunk) (read : Chunks) → has_id (codes "fmt ") chunk ≡ false → Agrees None most end r read → Agrees None (suc most) end r (with_chunk chunk read)
more_none most end r chunk read other h = go r h
  where
    same : format_chunk (chunk ∷ read.chunks) ≡ format_chunk read.chunks
    same = cond-false (has_id (codes "fmt ") chunk) (Some chunk) (format_chunk read.chunks) other

    fault : start (suc most) end (format_chunk (chunk ∷ read.chunks)) (with_chunk chunk read) ≡ start most end (format_chunk read.chunks) read
    fault = ap (λ (f : Option Chunk). start (suc most) end f (with_chunk chunk read)) same ∙ start-more most end chunk (format_chunk read.chunks) read

    go : (r : Result Opened WaveFault) → Agrees None most end r read → Agrees None (suc most) end r (with_chunk chunk read)
    go (Ok told) h = record { no_fault = fault ∙ h.no_fault; size = h.size; rest = h.rest; format = (h.format.0, same ∙ h.format.1, h.format.2) }
    go (Err f) h = fault ∙ h

more_format : (most end : ℕ) (r : Result Opened WaveFault) (chunk : Chunk) (read : Chunks) → has_id (codes "fmt ") chunk ≡ true → failed_test (length chunk.content) chunk.content ≡ None
    → Agrees (Some (format_of chunk.content)) most end r read → Agrees None (suc most) end r (with_chunk chunk read)
more_format most end r chunk read here none h = go r h
  where
    same : format_chunk (chunk ∷ read.chunks) ≡ Some chunk
    same = cond-true (has_id (codes "fmt ") chunk) (Some chunk) (format_chunk read.chunks) here

    fault : start (suc most) end (format_chunk (chunk ∷ read.chunks)) (with_chunk chunk read) ≡ past most read
    fault =
        ap (λ (f : Option Chunk). start (suc most) end f (with_chunk chunk read)) same
        ∙ ap (λ (t : Option Test). by_test t (nat_le (suc most) (suc (length read.chunks))) (begins_data read.rest)) none
        ∙ past-more most chunk read

    go : (r : Result Opened WaveFault) → Agrees (Some (format_of chunk.content)) most end r read → Agrees None (suc most) end r (with_chunk chunk read)
    go (Ok told) h = record { no_fault = fault ∙ h.no_fault; size = h.size; rest = h.rest; format = (chunk, same, h.format) }
    go (Err f) h = fault ∙ h

-- ---- one step

abbrev go_on : ℕ → ℕ → List ℕ → Step → Result Opened WaveFault
go_on most end bytes (Stop told) = told
go_on most end bytes (Go now total) = forward most end now (drop total bytes)

forward-is : (most end : ℕ) (found : Option Format) (bytes : List ℕ) (s : Step) → step end found bytes ≡ s → forward (suc most) end found bytes ≡ go_on most end bytes s
forward-is most end found bytes s e = ap (go_on most end bytes) e

none_read : (most : ℕ) (bytes : List ℕ) → chunk_at bytes ≡ None → whole_chunks (suc most) bytes ≡ record { chunks = []; rest = bytes }
none_read most bytes e = ap (read_by most bytes) e

-- where no whole chunk stands
no_chunk : (bytes : List ℕ) → is_whole bytes (u32_at bytes 4) ≡ false → chunk_at bytes ≡ None
no_chunk bytes e = cond-false (is_whole bytes (u32_at bytes 4)) (Some (made bytes (u32_at bytes 4))) None e

no_chunk-short : (bytes : List ℕ) → length bytes < 8 → chunk_at bytes ≡ None
no_chunk-short bytes h =
    no_chunk bytes (and_left (nat_le 8 (length bytes) && not (bytes_eq (take 4 bytes) (codes "data"))) (nat_le (8 + u32_at bytes 4 + u32_at bytes 4 % 2) (length bytes))
    (and_left (nat_le 8 (length bytes)) (not (bytes_eq (take 4 bytes) (codes "data"))) (lt-leb 8 (length bytes) h)))

no_chunk-data : (bytes : List ℕ) → bytes_eq (take 4 bytes) (codes "data") ≡ true → chunk_at bytes ≡ None
no_chunk-data bytes e =
    no_chunk bytes (and_left (nat_le 8 (length bytes) && not (bytes_eq (take 4 bytes) (codes "data"))) (nat_le (8 + u32_at bytes 4 + u32_at bytes 4 % 2) (length bytes))
    (and_right (nat_le 8 (length bytes)) (not (bytes_eq (take 4 bytes) (codes "data"))) (not_from_true (bytes_eq (take 4 bytes) (codes "data")) e)))

no_chunk-cut : (bytes : List ℕ) → length bytes < 8 + u32_at bytes 4 + u32_at bytes 4 % 2 → chunk_at bytes ≡ None
no_chunk-cut bytes h =
    no_chunk bytes (and_right (nat_le 8 (length bytes) && not (bytes_eq (take 4 bytes) (codes "data"))) (nat_le (8 + u32_at bytes 4 + u32_at bytes 4 % 2) (length bytes))
    (lt-leb (8 + u32_at bytes 4 + u32_at bytes 4 % 2) (length bytes) h))

no_format : (end : ℕ) (rest : List ℕ) → (nat_le 8 (length rest) && bytes_eq (take 4 rest) (codes "fmt ")) ≡ false → end_fault end rest ≡ Some NoFormat
no_format end rest e = cond-false (nat_le 8 (length rest) && bytes_eq (take 4 rest) (codes "fmt ")) (or_else (cut_format_fault end (u32_at rest 4) (drop 8 rest)) NoData) (Some NoFormat) e

-- the chunks end before any more
ends : (found : Option Format) (most end : ℕ) (bytes : List ℕ) → begins_data bytes ≡ false → (found ≡ None → end_fault end bytes ≡ Some NoFormat)
    → fault_of found (suc most) end (record { chunks = []; rest = bytes }) ≡ Some (ended found)
ends (Some format) most end bytes quiet h =
    cond-false (nat_le (suc most) 0) (Some TooManyChunks) (cond (begins_data bytes) None (Some NoData)) (lt-leb (suc most) 0 (omega arith))
    ∙ cond-false (begins_data bytes) None (Some NoData) quiet
ends None most end bytes quiet h =
    cond-false (nat_le (suc most) 0) (Some TooManyChunks) (end_fault end bytes) (lt-leb (suc most) 0 (omega arith)) ∙ h refl

-- fewer than 8 bytes are left
agrees-short : (most end : ℕ) (found : Option Format) (bytes : List ℕ) → length bytes < 8 → Agrees found (suc most) end (forward (suc most) end found bytes) (whole_chunks (suc most) bytes)
agrees-short most end found bytes h =
    conclude found (suc most) end (forward (suc most) end found bytes) (Err (ended found)) (whole_chunks (suc most) bytes) (record { chunks = []; rest = bytes })
    (forward-is most end found bytes (Stop (Err (ended found))) (cond-true (nat_lt (length bytes) 8) (Stop (Err (ended found))) _ (lt-ltb (length bytes) 8 h)))
    (none_read most bytes (no_chunk-short bytes h))
    (ends found most end bytes (and_left (nat_le 8 (length bytes)) (bytes_eq (take 4 bytes) (codes "data")) (lt-leb 8 (length bytes) h))
    (λ _. no_format end bytes (and_left (nat_le 8 (length bytes)) (bytes_eq (take 4 bytes) (codes "fmt ")) (lt-leb 8 (length bytes) h))))

-- `data`
agrees-data : (most end : ℕ) (found : Option Format) (bytes : List ℕ) → 8 ≤ length bytes → bytes_eq (take 4 bytes) (codes "data") ≡ true
    → Agrees found (suc most) end (forward (suc most) end found bytes) (whole_chunks (suc most) bytes)
agrees-data most end found bytes long e =
    conclude found (suc most) end (forward (suc most) end found bytes) (at_data found bytes) (whole_chunks (suc most) bytes) (record { chunks = []; rest = bytes })
    (forward-is most end found bytes (Stop (at_data found bytes))
    (cond-false (nat_lt (length bytes) 8) (Stop (Err (ended found))) _ (le-ltb (length bytes) 8 long)
    ∙ cond-true (bytes_eq (take 4 bytes) (codes "data")) (Stop (at_data found bytes)) (at_other end found bytes) e))
    (none_read most bytes (no_chunk-data bytes e))
    (go found)
  where
    follows : begins_data bytes ≡ true
    follows = and_from (nat_le 8 (length bytes)) (bytes_eq (take 4 bytes) (codes "data")) (le-leb 8 (length bytes) long) e

    id : take 4 bytes ≡ codes "data"
    id = (bytes_eq-Decides (take 4 bytes) (codes "data")).0 e

    other : bytes_eq (take 4 bytes) (codes "fmt ") ≡ false
    other = ap (λ (i : List ℕ). bytes_eq i (codes "fmt ")) id

    go : (found : Option Format) → Agrees found (suc most) end (at_data found bytes) (record { chunks = []; rest = bytes })
    go None =
        cond-false (nat_le (suc most) 0) (Some TooManyChunks) (end_fault end bytes) (lt-leb (suc most) 0 (omega arith))
        ∙ no_format end bytes (and_right (nat_le 8 (length bytes)) (bytes_eq (take 4 bytes) (codes "fmt ")) other)
    go (Some format) =
        record {
          no_fault =
              cond-false (nat_le (suc most) 0) (Some TooManyChunks) (cond (begins_data bytes) None (Some NoData)) (lt-leb (suc most) 0 (omega arith))
              ∙ cond-true (begins_data bytes) None (Some NoData) follows;
          size = refl;
          rest = refl;
          format = refl;
        }

-- a chunk that is not `data`, where the bytes have all of it
record IsSkipped (most : ℕ) (bytes : List ℕ) : Type 0 where
  read : whole_chunks (suc most) bytes ≡ with_chunk (made bytes (u32_at bytes 4)) (whole_chunks most (drop (8 + u32_at bytes 4 + u32_at bytes 4 % 2) bytes))
  content : length (slice_range bytes 8 (8 + u32_at bytes 4)) ≡ u32_at bytes 4

skipped : (most : ℕ) (bytes : List ℕ) → AreBytes bytes → bytes_eq (take 4 bytes) (codes "data") ≡ false → 8 + u32_at bytes 4 + u32_at bytes 4 % 2 ≤ length bytes → IsSkipped most bytes
skipped most bytes all other long =
    record {
      read = ap (read_by most bytes) (cond-true (is_whole bytes n) (Some (made bytes n)) None holds) ∙ ap (λ (k : ℕ). with_chunk (made bytes n) (whole_chunks most (drop k bytes))) total;
      content = content;
    }
  where
    n : ℕ
    n = u32_at bytes 4

    holds : is_whole bytes n ≡ true
    holds =
        and_from (nat_le 8 (length bytes) && not (bytes_eq (take 4 bytes) (codes "data"))) (nat_le (8 + n + n % 2) (length bytes))
        (and_from (nat_le 8 (length bytes)) (not (bytes_eq (take 4 bytes) (codes "data"))) (le-leb 8 (length bytes) (omega (arith, long))) (not_from_false (bytes_eq (take 4 bytes) (codes "data")) other))
        (le-leb (8 + n + n % 2) (length bytes) long)

    content : length (slice_range bytes 8 (8 + n)) ≡ n
    content = length-cut bytes 8 n (omega (arith, long))

    at : IsFront bytes (made bytes n)
    at = front bytes n all refl holds

    total : length (chunk_text (made bytes n)) ≡ 8 + n + n % 2
    total = length-chunk_text (made bytes n) at.whole ∙ ap (λ (k : ℕ). 8 + k + k % 2) content

-- what the rest gives
abbrev Later : ℕ → ℕ → List ℕ → Type 0
Later most end bytes = (now : Option Format) → Agrees now most end (forward most end now (drop (8 + u32_at bytes 4 + u32_at bytes 4 % 2) bytes)) (whole_chunks most (drop (8 + u32_at bytes 4 + u32_at bytes 4 % 2) bytes))

step_other : (end : ℕ) (found : Option Format) (bytes : List ℕ) → 8 ≤ length bytes → bytes_eq (take 4 bytes) (codes "data") ≡ false → step end found bytes ≡ at_other end found bytes
step_other end found bytes long other =
    cond-false (nat_lt (length bytes) 8) (Stop (Err (ended found))) _ (le-ltb (length bytes) 8 long)
    ∙ cond-false (bytes_eq (take 4 bytes) (codes "data")) (Stop (at_data found bytes)) (at_other end found bytes) other

skip-cut : (found : Option Format) (bytes : List ℕ) → length bytes < 8 + u32_at bytes 4 + u32_at bytes 4 % 2 → skip found bytes ≡ Stop (Err (ended found))
skip-cut found bytes h =
    let total = 8 + u32_at bytes 4 + u32_at bytes 4 % 2 in
    cond-true (nat_lt (length bytes) total) (Stop (Err (ended found))) (Go found total) (lt-ltb (length bytes) total h)

skip-whole : (found : Option Format) (bytes : List ℕ) → 8 + u32_at bytes 4 + u32_at bytes 4 % 2 ≤ length bytes → skip found bytes ≡ Go found (8 + u32_at bytes 4 + u32_at bytes 4 % 2)
skip-whole found bytes h =
    let total = 8 + u32_at bytes 4 + u32_at bytes 4 % 2 in
    cond-false (nat_lt (length bytes) total) (Stop (Err (ended found))) (Go found total) (le-ltb (length bytes) total h)

-- a chunk that is not `data`, behind a `fmt `
agrees-found : (most end : ℕ) (format : Format) (bytes : List ℕ) → AreBytes bytes → 8 ≤ length bytes → bytes_eq (take 4 bytes) (codes "data") ≡ false → Later most end bytes
    → Agrees (Some format) (suc most) end (forward (suc most) end (Some format) bytes) (whole_chunks (suc most) bytes)
agrees-found most end format bytes all long other later =
    ⊎_elim (λ (h : length bytes < total).
    conclude (Some format) (suc most) end (forward (suc most) end (Some format) bytes) (Err NoData) (whole_chunks (suc most) bytes) (record { chunks = []; rest = bytes })
    (forward-is most end (Some format) bytes (Stop (Err NoData)) (step_other end (Some format) bytes long other ∙ skip-cut (Some format) bytes h))
    (none_read most bytes (no_chunk-cut bytes h))
    (ends (Some format) most end bytes (and_right (nat_le 8 (length bytes)) (bytes_eq (take 4 bytes) (codes "data")) other) (λ e. absurd (some_none format e))))
    (λ (h : total ≤ length bytes).
    conclude (Some format) (suc most) end (forward (suc most) end (Some format) bytes) (forward most end (Some format) (drop total bytes)) (whole_chunks (suc most) bytes) (with_chunk (made bytes n) (whole_chunks most (drop total bytes)))
    (forward-is most end (Some format) bytes (Go (Some format) total) (step_other end (Some format) bytes long other ∙ skip-whole (Some format) bytes h))
    (skipped most bytes all other h).read
    (more_found format most end (forward most end (Some format) (drop total bytes)) (made bytes n) (whole_chunks most (drop total bytes)) (later (Some format))))
    (cases_lt (length bytes) total)
  where
    n : ℕ
    n = u32_at bytes 4

    total : ℕ
    total = 8 + n + n % 2

    some_none : (f : Format) → Some f ≡ None → ⊥
    some_none f e = cc

-- a chunk that is neither `data` nor `fmt `
agrees-none : (most end : ℕ) (bytes : List ℕ) → AreBytes bytes → 8 ≤ length bytes → bytes_eq (take 4 bytes) (codes "data") ≡ false → bytes_eq (take 4 bytes) (codes "fmt ") ≡ false → Later most end bytes
    → Agrees None (suc most) end (forward (suc most) end None bytes) (whole_chunks (suc most) bytes)
agrees-none most end bytes all long other plain later =
    ⊎_elim (λ (h : length bytes < total).
    conclude None (suc most) end (forward (suc most) end None bytes) (Err NoFormat) (whole_chunks (suc most) bytes) (record { chunks = []; rest = bytes })
    (forward-is most end None bytes (Stop (Err NoFormat)) (goes_on ∙ skip-cut None bytes h))
    (none_read most bytes (no_chunk-cut bytes h))
    (ends None most end bytes (and_right (nat_le 8 (length bytes)) (bytes_eq (take 4 bytes) (codes "data")) other) (λ _. no_format end bytes (and_right (nat_le 8 (length bytes)) (bytes_eq (take 4 bytes) (codes "fmt ")) plain))))
    (λ (h : total ≤ length bytes).
    conclude None (suc most) end (forward (suc most) end None bytes) (forward most end None (drop total bytes)) (whole_chunks (suc most) bytes) (with_chunk (made bytes n) (whole_chunks most (drop total bytes)))
    (forward-is most end None bytes (Go None total) (goes_on ∙ skip-whole None bytes h))
    (skipped most bytes all other h).read
    (more_none most end (forward most end None (drop total bytes)) (made bytes n) (whole_chunks most (drop total bytes)) plain (later None)))
    (cases_lt (length bytes) total)
  where
    n : ℕ
    n = u32_at bytes 4

    total : ℕ
    total = 8 + n + n % 2

    goes_on : step end None bytes ≡ skip None bytes
    goes_on =
        step_other end None bytes long other
        ∙ cond-false (bytes_eq (take 4 bytes) (codes "fmt ")) (tested (cut_format_fault end (u32_at bytes 4) (drop 8 bytes)) bytes) (skip None bytes) plain

-- the first `fmt `
module _ (most end : ℕ) (bytes : List ℕ) (all : AreBytes bytes) (long : 8 ≤ length bytes) (other : bytes_eq (take 4 bytes) (codes "data") ≡ false) (here : bytes_eq (take 4 bytes) (codes "fmt ") ≡ true) where
  abbrev count : ℕ
  count = u32_at bytes 4

  abbrev total : ℕ
  total = 8 + count + count % 2

  abbrev content : List ℕ
  content = slice_range bytes 8 (8 + count)

  goes_on : step end None bytes ≡ tested (cut_format_fault end count (drop 8 bytes)) bytes
  goes_on =
      step_other end None bytes long other
      ∙ cond-true (bytes_eq (take 4 bytes) (codes "fmt ")) (tested (cut_format_fault end count (drop 8 bytes)) bytes) (skip None bytes) here

  -- cut short
  cut_fault : end_fault end bytes ≡ or_else (cut_format_fault end count (drop 8 bytes)) NoData
  cut_fault =
      cond-true (nat_le 8 (length bytes) && bytes_eq (take 4 bytes) (codes "fmt ")) (or_else (cut_format_fault end count (drop 8 bytes)) NoData) (Some NoFormat)
      (and_from (nat_le 8 (length bytes)) (bytes_eq (take 4 bytes) (codes "fmt ")) (le-leb 8 (length bytes) long) here)

  fault_when_cut : (c : Option WaveFault) → cut_format_fault end count (drop 8 bytes) ≡ c → start (suc most) end None (record { chunks = []; rest = bytes }) ≡ or_else c NoData
  fault_when_cut c e =
      cond-false (nat_le (suc most) 0) (Some TooManyChunks) (end_fault end bytes) (lt-leb (suc most) 0 (omega arith)) ∙ cut_fault ∙ ap (λ (f : Option WaveFault). or_else f NoData) e

  agrees_cut : length bytes < total → (c : Option WaveFault) → cut_format_fault end count (drop 8 bytes) ≡ c → Agrees None (suc most) end (forward (suc most) end None bytes) (whole_chunks (suc most) bytes)
  agrees_cut h None e =
      conclude None (suc most) end (forward (suc most) end None bytes) (Err NoData) (whole_chunks (suc most) bytes) (record { chunks = []; rest = bytes })
      (forward-is most end None bytes (Stop (Err NoData)) (goes_on ∙ ap (λ (f : Option WaveFault). tested f bytes) e ∙ skip-cut (Some (format_of (drop 8 bytes))) bytes h))
      (none_read most bytes (no_chunk-cut bytes h))
      (fault_when_cut None e)
  agrees_cut h (Some fault) e =
      conclude None (suc most) end (forward (suc most) end None bytes) (Err fault) (whole_chunks (suc most) bytes) (record { chunks = []; rest = bytes })
      (forward-is most end None bytes (Stop (Err fault)) (goes_on ∙ ap (λ (f : Option WaveFault). tested f bytes) e))
      (none_read most bytes (no_chunk-cut bytes h))
      (fault_when_cut (Some fault) e)

  -- whole
  abbrev others : Chunks
  others = whole_chunks most (drop total bytes)

  tests : total ≤ length bytes → cut_format_fault end count (drop 8 bytes) ≡ test_fault (failed_test count content)
  tests h = ap (cut_format_fault end count) (cut bytes 8 count) ∙ cut_format_fault-whole end count content (drop (8 + count) bytes) (skipped most bytes all other h).content

  least : failed_test count content ≡ None → 16 ≤ count
  least none = leb-true 16 count (not-false (nat_le 16 count) (cond_none (not (nat_le 16 count)) (record { field = Size; value = count; passes = nat_le 16 count }) _ none).0)

  agrees_whole : total ≤ length bytes → Later most end bytes → (t : Option Test) → failed_test count content ≡ t → Agrees None (suc most) end (forward (suc most) end None bytes) (whole_chunks (suc most) bytes)
  agrees_whole h later None e =
      let size : length content ≡ count = (skipped most bytes all other h).content in
      let some : 16 ≤ length content = omega (arith, size, least e) in
      let format : format_of (drop 8 bytes) ≡ format_of content = ap format_of (cut bytes 8 count) ∙ format_of-front content (drop (8 + count) bytes) some in
      conclude None (suc most) end (forward (suc most) end None bytes) (forward most end (Some (format_of content)) (drop total bytes)) (whole_chunks (suc most) bytes) (with_chunk (made bytes count) others)
      (forward-is most end None bytes (Go (Some (format_of content)) total)
      (goes_on ∙ ap (λ (f : Option WaveFault). tested f bytes) (tests h ∙ ap test_fault e) ∙ skip-whole (Some (format_of (drop 8 bytes))) bytes h ∙ ap (λ (f : Format). Go (Some f) total) format))
      (skipped most bytes all other h).read
      (more_format most end (forward most end (Some (format_of content)) (drop total bytes)) (made bytes count) others here (ap (λ (k : ℕ). failed_test k content) size ∙ e) (later (Some (format_of content))))
  agrees_whole h later (Some test) e =
      let size : length content ≡ count = (skipped most bytes all other h).content in
      conclude None (suc most) end (forward (suc most) end None bytes) (Err (BadFormat test.field test.value)) (whole_chunks (suc most) bytes) (with_chunk (made bytes count) others)
      (forward-is most end None bytes (Stop (Err (BadFormat test.field test.value))) (goes_on ∙ ap (λ (f : Option WaveFault). tested f bytes) (tests h ∙ ap test_fault e)))
      (skipped most bytes all other h).read
      (ap (λ (f : Option Chunk). start (suc most) end f (with_chunk (made bytes count) others)) (cond-true (has_id (codes "fmt ") (made bytes count)) (Some (made bytes count)) (format_chunk others.chunks) here)
      ∙ ap (λ (t : Option Test). by_test t (nat_le (suc most) (suc (length others.chunks))) (begins_data others.rest)) (ap (λ (k : ℕ). failed_test k content) size ∙ e))

  agrees-format : Later most end bytes → Agrees None (suc most) end (forward (suc most) end None bytes) (whole_chunks (suc most) bytes)
  agrees-format later =
      ⊎_elim (λ (h : length bytes < total). agrees_cut h (cut_format_fault end count (drop 8 bytes)) refl)
      (λ (h : total ≤ length bytes). agrees_whole h later (failed_test count content) refl)
      (cases_lt (length bytes) total)

-- reading on gives what the whole chunks give
agrees : (most end : ℕ) (found : Option Format) (bytes : List ℕ) → AreBytes bytes → Agrees found most end (forward most end found bytes) (whole_chunks most bytes)
agrees zero end None bytes all = refl
agrees zero end (Some format) bytes all = refl
agrees (suc most) end found bytes all =
    go (λ now. agrees most end now (drop (8 + u32_at bytes 4 + u32_at bytes 4 % 2) bytes) (All-drop (λ b. b < 256) (8 + u32_at bytes 4 + u32_at bytes 4 % 2) bytes all))
  where
    chunk : 8 ≤ length bytes → bytes_eq (take 4 bytes) (codes "data") ≡ false → Later most end bytes → (f : Option Format) → Agrees f (suc most) end (forward (suc most) end f bytes) (whole_chunks (suc most) bytes)
    chunk long other later (Some format) = agrees-found most end format bytes all long other later
    chunk long other later None =
        ⊎_elim (λ (here : bytes_eq (take 4 bytes) (codes "fmt ") ≡ true). agrees-format most end bytes all long other here later)
        (λ (plain : bytes_eq (take 4 bytes) (codes "fmt ") ≡ false). agrees-none most end bytes all long other plain later)
        (cases_Bool (bytes_eq (take 4 bytes) (codes "fmt ")))

    go : Later most end bytes → Agrees found (suc most) end (forward (suc most) end found bytes) (whole_chunks (suc most) bytes)
    go later =
        ⊎_elim (λ (h : length bytes < 8). agrees-short most end found bytes h)
        (λ (h : 8 ≤ length bytes).
        ⊎_elim (λ (e : bytes_eq (take 4 bytes) (codes "data") ≡ true). agrees-data most end found bytes h e)
        (λ (e : bytes_eq (take 4 bytes) (codes "data") ≡ false). chunk h e later found)
        (cases_Bool (bytes_eq (take 4 bytes) (codes "data"))))
        (cases_lt (length bytes) 8)

-- ---- from the first byte on

fault_in-cond : (c : Bool) (fault : WaveFault) (r : Result Opened WaveFault) (f : Option WaveFault) → fault_in r ≡ f → fault_in (cond c (Err fault) r) ≡ cond c (Some fault) f
fault_in-cond true fault r f e = refl
fault_in-cond false fault r f e = e

ok-cond : (c : Bool) (fault : WaveFault) (r : Result Opened WaveFault) (told : Opened) → cond c (Err fault) r ≡ Ok told → r ≡ Ok told
ok-cond true fault r told e = absurd (err_is_not_ok fault told e)
  where
    err_is_not_ok : (fault : WaveFault) (told : Opened) → Err fault ≡ Ok told → ⊥
    err_is_not_ok fault told e = cc
ok-cond false fault r told e = e

fault_in-agrees : (most end : ℕ) (r : Result Opened WaveFault) (read : Chunks) → Agrees None most end r read → fault_in r ≡ start most end (format_chunk read.chunks) read
fault_in-agrees most end (Ok told) read h = sym h.no_fault
fault_in-agrees most end (Err fault) read h = sym h

-- the fault that is met is the fault of the definition
pub fault_in-opened : (bytes : List ℕ) → All (λ b. b < 256) bytes → fault_in (opened bytes) ≡ wave_fault bytes
fault_in-opened bytes all =
    let end = length bytes in
    let read = whole_chunks 4096 (drop 12 bytes) in
    let told = forward 4096 end None (drop 12 bytes) in
    let last : fault_in told ≡ chunks_fault end (format_chunk read.chunks) read =
    fault_in-agrees 4096 end told read (agrees 4096 end None (drop 12 bytes) (All-drop (λ b. b < 256) 12 bytes all)) ∙ sym (start-is end (format_chunk read.chunks) read) in
    fault_in-cond (nat_lt end 4) (Ends end) _ _
    (fault_in-cond (not (bytes_eq (take 4 bytes) (codes "RIFF"))) NotRiff _ _
    (fault_in-cond (nat_lt end 12) (Ends end) _ _
    (fault_in-cond (not (bytes_eq (slice_range bytes 8 12) (codes "WAVE"))) NotWave told (chunks_fault end (format_chunk read.chunks) read) last)))

-- what is opened is the wave of the definition
pub wave-opened : (bytes : List ℕ) (told : Opened) → All (λ b. b < 256) bytes → opened bytes ≡ Ok told → IsWave bytes told.format (wave_in told)
wave-opened bytes told all e = go (wave-no_fault bytes all none)
  where
    end : ℕ
    end = length bytes

    none : wave_fault bytes ≡ None
    none = sym (fault_in-opened bytes all) ∙ ap fault_in e

    forwards : forward 4096 end None (drop 12 bytes) ≡ Ok told
    forwards =
        ok-cond (not (bytes_eq (slice_range bytes 8 12) (codes "WAVE"))) NotWave _ told
        (ok-cond (nat_lt end 12) (Ends end) _ told (ok-cond (not (bytes_eq (take 4 bytes) (codes "RIFF"))) NotRiff _ told (ok-cond (nat_lt end 4) (Ends end) _ told e)))

    is : IsOpened None 4096 end told (whole_chunks 4096 (drop 12 bytes))
    is = subst (λ (r : Result Opened WaveFault). Agrees None 4096 end r (whole_chunks 4096 (drop 12 bytes))) forwards (agrees 4096 end None (drop 12 bytes) (All-drop (λ b. b < 256) 12 bytes all))

    go : (format : Format) × (samples : List ℤ) × IsWave bytes format samples → IsWave bytes told.format (wave_in told)
    go (format, samples, (parts, fmt, by)) =
        let read : whole_chunks 4096 (drop 12 bytes) ≡ record { chunks = parts.chunks; rest = data_text parts.size parts.rest } = whole_chunks-wave bytes format samples parts fmt by in
        let here : IsOpened None 4096 end told (record { chunks = parts.chunks; rest = data_text parts.size parts.rest }) = subst (λ (c : Chunks). IsOpened None 4096 end told c) read is in
        let size : told.size ≡ parts.size = here.size ∙ u32_at-front (codes "data") parts.rest parts.size refl by.size in
        let rest : told.rest ≡ parts.rest = here.rest ∙ rest_of parts.size parts.rest in
        let chunk : here.format.0 ≡ fmt = one_chunk here.format.0 fmt (sym here.format.1 ∙ by.first_format) in
        let same : told.format ≡ format = here.format.2 ∙ ap (λ (c : Chunk). format_of c.content) chunk ∙ sym by.format_is in
        let samples_same : samples ≡ wave_in told = by.samples_are ∙ sym (same_samples told.format format told.size parts.size told.rest parts.rest same size rest) in
        subst (λ (f : Format). IsWave bytes f (wave_in told)) (sym same) (subst (λ (xs : List ℤ). IsWave bytes format xs) samples_same (parts, fmt, by))
