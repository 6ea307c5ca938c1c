-- What contracts see of a WAVE file in the making. Callers cite this module.
--     Tape      a file that is written: its format, its store's name and bytes where these are told, and how far it came
--     HasSamples tape samples      it holds the unfinished header and the bytes of these samples
--     HasFront format samples told      what a store holds behind a fault, if it tells
--     HasAnyFront format samples told      what stands of it once it was handed back
--     HasUnfinished format samples told      what it holds behind a put that failed: sizes are not written yet
--     Gained old new bytes, GainedPart old new bytes      all of the bytes were appended, or a front of them
use Rattle.std.specs.Prelude.{◌≡◌, ℕ, ◌+◌, ◌≤◌, ◌⊎◌, Bool, false, List, ◌++◌, length, take, drop, slice_get, slice_range, ℤ, Option, IfSome, is_some}
use Rattle.std.specs.Option.{ForSome}
use Rattle.session_model.specs.jack_types.specs.declared.files.Format.{Format}
use Rattle.jack_host.specs.Bytes.{Gains}
use Rattle.session_model.specs.Samples.{bytes_of}
use Rattle.session_model.specs.WaveFiles.{IsFormat, opening_text, wave_text}

-- `name` and `bytes` are what the store tells, `faults` is its count, `written` is how many sample bytes were put,
-- and `stopped` is whether a put failed
pub record Tape : Type 0 where
  pub format : Format
  pub name : Option (List ℕ)
  pub bytes : Option (List ℕ)
  pub faults : ℕ
  pub written : ℕ
  pub stopped : Bool

-- no put failed, and the store holds the unfinished header and these samples, where it tells
pub record HasSamples (tape : Tape) (samples : List ℤ) : Type 0 where
  pub going : tape.stopped ≡ false
  pub bytes : IfSome tape.bytes (λ bytes. bytes ≡ opening_text tape.format ++ bytes_of tape.format.bits samples)

-- each byte of a header is the one of the opening or the one of the finished file
abbrev pub IsBetween : List ℕ → List ℕ → List ℕ → Type 0
IsBetween opening final header =
    (length header ≡ length opening) × ((i : ℕ) → (slice_get header i ≡ slice_get opening i) ⊎ (slice_get header i ≡ slice_get final i))

-- a front of the unfinished header
abbrev pub IsCut : Format → List ℕ → Type 0
IsCut format bytes = bytes ≡ take (length bytes) (opening_text format)

-- a header between the opening and the final one, and a front of the finished file's other bytes
abbrev pub IsHeaded : List ℕ → List ℕ → List ℕ → Type 0
IsHeaded opening final bytes = (header : List ℕ) × (n : ℕ) × IsBetween opening (take 44 final) header × (bytes ≡ header ++ take n (drop 44 final))

-- the size at 40 is written behind the size at 4: it is still the opening one, or that one is final
abbrev pub AreInOrder : List ℕ → List ℕ → List ℕ → Type 0
AreInOrder opening final bytes = (slice_range bytes 40 44 ≡ slice_range opening 40 44) ⊎ (slice_range bytes 4 8 ≡ slice_range final 4 8)

-- behind a fault a store that tells is empty, holds a front of the header, or a header and a front of the sample bytes,
-- the pad byte counted to them
abbrev pub HasFront : Format → List ℤ → Option (List ℕ) → Type 0
HasFront format samples told = IfSome told (λ bytes. IsCut format bytes ⊎ IsHeaded (opening_text format) (wave_text format samples) bytes)

-- a front of a file whose header's bytes are the opening's or the final ones
abbrev pub IsAnyFront : List ℕ → List ℕ → List ℕ → Type 0
IsAnyFront opening final bytes =
    (header : List ℕ) × IsBetween opening (take 44 final) header × (bytes ≡ take (length bytes) (header ++ drop 44 final))

-- once it was handed back, its last bytes may lack
abbrev pub HasAnyFront : Format → List ℤ → Option (List ℕ) → Type 0
HasAnyFront format samples told = IfSome told (IsAnyFront (opening_text format) (wave_text format samples))

-- behind a put that failed a store that tells holds a front of the unfinished file, whose sizes are those of the opening
abbrev pub HasUnfinished : Format → List ℤ → Option (List ℕ) → Type 0
HasUnfinished format samples told = IfSome told (λ bytes. bytes ≡ take (length bytes) (opening_text format ++ bytes_of format.bits samples))

-- one file, before and after: its count of faults never falls, and it tells its bytes afterwards where it did before
pub record SameFile (old new : Tape) : Type 0 where
  pub format : new.format ≡ old.format
  pub name : new.name ≡ old.name
  pub tells : is_some new.bytes ≡ is_some old.bytes
  pub later : old.faults ≤ new.faults

-- the bytes were appended
pub record Gained (old new : Tape) (bytes : List ℕ) : Type 0 where
  pub told : Gains old.bytes new.bytes bytes
  pub written : new.written ≡ old.written + length bytes

-- a front of the bytes was appended
abbrev pub GainedPart : Tape → Tape → List ℕ → Type 0
GainedPart old new bytes = (n : ℕ) × (n ≤ length bytes) × Gains old.bytes new.bytes (take n bytes)

-- what a file keeps: its format may be written, it is not too long, and until a put fails it has the unfinished header and
-- as many bytes as were put
pub record IsKept (format : Format) (told : Option (List ℕ)) (written : ℕ) (stopped : Bool) : Type 0 where
  pub lawful : IsFormat format
  pub few : written ≤ 4294967000
  pub header : stopped ≡ false → ForSome told (λ bytes. take 44 bytes ≡ opening_text format)
  pub long : stopped ≡ false → ForSome told (λ bytes. length bytes ≡ 44 + written)
