-- What the tasks that fill a file from a ring do.
--     MayWrite getting tape      when they may be called
--     FindsNone getting getting_after      a get of the call found no block more
--     Drains, Serves, Finishes      what they did
--     IsCutBehind tape samples more      what the file holds behind a failed put
--     Fails      what stands behind that
use Rattle.std.specs.Prelude.{◌≡◌, ℕ, ◌+◌, ◌*◌, ◌<◌, ◌≤◌, true, false, List, [], ◌∷◌, ◌++◌, length, take, ℤ, Option, IfSome, is_some}
use Rattle.session_model.specs.Rings.{RingBlock, samples_of_blocks}
use Rattle.session_model.specs.Samples.{width, bytes_of}
use Rattle.session_model.specs.WaveFiles.{IsFormat, opening_text, wave_text}
use Rattle.record_ring.specs.driver_words.specs.Rings.{Getting, items_of}
use Rattle.record_ring.specs.driver_words.specs.Tapes.{Tape, HasSamples, HasFront, HasUnfinished}

-- no put failed, and the file has no more samples than the blocks got, so that all blocks that the ring may carry fit
pub record MayWrite (getting : Getting) (tape : Tape) : Type 0 where
  pub going : tape.stopped ≡ false
  pub lawful : IsFormat tape.format
  pub few : getting.most ≤ 1000000000
  pub got : items_of getting.got ≤ getting.most
  pub written : tape.written ≤ items_of getting.got * width tape.format.bits

-- one ring, and one file
pub record SameEnds (getting : Getting) (tape : Tape) (getting_after : Getting) (tape_after : Tape) : Type 0 where
  pub table : getting_after.table ≡ getting.table
  pub room : getting_after.samples ≡ getting.samples
  pub most : getting_after.most ≡ getting.most
  pub format : tape_after.format ≡ tape.format
  pub name : tape_after.name ≡ tape.name
  pub tells : is_some tape_after.bytes ≡ is_some tape.bytes
  pub later : tape.faults ≤ tape_after.faults
  pub least : getting.least ≤ getting_after.least

-- the last get found as many blocks as were got, and it is a get of this call: what was found before it goes on from what was found before the call
pub record FindsNone (getting getting_after : Getting) : Type 0 where
  pub before : List ℕ
  pub this_call : getting.finds ≡ take (length getting.finds) before
  pub last : getting_after.finds ≡ before ++ length getting_after.got ∷ []

-- so many blocks were got and written, in their order: a tape that had all samples got before has them afterwards
pub record Writes (count : ℕ) (getting : Getting) (tape : Tape) (getting_after : Getting) (tape_after : Tape) : Type 0 where
  pub same : SameEnds getting tape getting_after tape_after
  pub longer : getting.got ≡ take (length getting.got) getting_after.got
  pub finds : getting.finds ≡ take (length getting.finds) getting_after.finds
  pub count_is : length getting_after.got ≡ length getting.got + count
  pub samples : (samples : List ℤ) → HasSamples tape (samples ++ samples_of_blocks getting.got) → HasSamples tape_after (samples ++ samples_of_blocks getting_after.got)
  pub may : MayWrite getting_after tape_after

-- at most so many blocks; fewer only where a get found no more
pub record Drains (most count : ℕ) (getting : Getting) (tape : Tape) (getting_after : Getting) (tape_after : Tape) : Type 0 where
  pub writes : Writes count getting tape getting_after tape_after
  pub at_most : count ≤ most
  pub fewer : count < most → getting_after.least ≡ length getting_after.got
  pub found_none : count < most → FindsNone getting getting_after

-- all blocks up to the end
pub record Serves (count : ℕ) (getting : Getting) (tape : Tape) (getting_after : Getting) (tape_after : Tape) : Type 0 where
  pub writes : Writes count getting tape getting_after tape_after
  pub done : getting_after.done ≡ true
  pub all : getting_after.least ≡ length getting_after.got
  pub found_none : FindsNone getting getting_after

-- the file, whose sizes are not written, holds its header, these samples, and a front of the bytes of more
abbrev pub IsCutBehind : Tape → List ℤ → List ℤ → Type 0
IsCutBehind tape samples more = IfSome tape.bytes (λ bytes. (n : ℕ) × (bytes ≡ opening_text tape.format ++ bytes_of tape.format.bits samples ++ take n (bytes_of tape.format.bits more)))

-- a put failed behind so many that did not: the file, whose sizes are not written, holds all blocks got but the last one, and a front of that
pub record Fails (getting : Getting) (tape : Tape) (getting_after : Getting) (tape_after : Tape) : Type 0 where
  pub same : SameEnds getting tape getting_after tape_after
  pub longer : getting.got ≡ take (length getting.got) getting_after.got
  pub stopped : tape_after.stopped ≡ true
  pub front : (samples : List ℤ) → HasSamples tape (samples ++ samples_of_blocks getting.got) → HasUnfinished tape_after.format (samples ++ samples_of_blocks getting_after.got) tape_after.bytes
  pub count : ℕ
  pub whole : List RingBlock
  pub last : RingBlock
  pub got_are : getting_after.got ≡ whole ++ last ∷ []
  pub count_is : length whole ≡ length getting.got + count
  pub cut : (samples : List ℤ) → HasSamples tape (samples ++ samples_of_blocks getting.got) → IsCutBehind tape_after (samples ++ samples_of_blocks whole) last.samples

-- all blocks that were found, and then the file is finished
pub record Finishes (count : ℕ) (getting : Getting) (tape : Tape) (getting_after : Getting) (bytes : Option (List ℕ)) : Type 0 where
  pub longer : getting.got ≡ take (length getting.got) getting_after.got
  pub count_is : length getting_after.got ≡ length getting.got + count
  pub all : getting_after.least ≡ length getting_after.got
  pub found_none : FindsNone getting getting_after
  pub least : getting.least ≤ getting_after.least
  pub file : (samples : List ℤ) → HasSamples tape (samples ++ samples_of_blocks getting.got) → IfSome bytes (λ text. text ≡ wave_text tape.format (samples ++ samples_of_blocks getting_after.got))

-- or the finish failed, at a put or behind all puts
pub record Breaks (getting : Getting) (tape : Tape) (getting_after : Getting) (bytes : Option (List ℕ)) : Type 0 where
  pub longer : getting.got ≡ take (length getting.got) getting_after.got
  pub least : getting.least ≤ getting_after.least
  pub front : (samples : List ℤ) → HasSamples tape (samples ++ samples_of_blocks getting.got) → HasFront tape.format (samples ++ samples_of_blocks getting_after.got) bytes
