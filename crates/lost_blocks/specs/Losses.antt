-- What is noted of the recorders and the disks of a report.
--     Noted      the four recorders, and the four disks
--     heard_with noted line      what is noted behind a further line
--     is_told line      whether it is a line of a recorder or of a disk, or of a block that one of them missed
--     stream_of noted owner      what is noted of an owner
use Rattle.std.specs.Prelude.{ℕ, ◌==◌, ◌||◌, Bool, List, [], ◌∷◌, codes, drop, not, slice_index_or, slice_set, Ok, Err, if◌then◌else◌}
use Rattle.std.specs.List.{list_any}
use Rattle.std.specs.Str.{bytes_eq}
use Rattle.lost_blocks.specs.declared.losses.Owner.{Owner}
use Rattle.lost_blocks.specs.declared.losses.Owner.TheVariants.{Recorder, Disk}
use Rattle.lost_blocks.specs.declared.losses.Stream.{Stream}
use Rattle.session_model.specs.Reading.{◌>>=◌, Read, Reader, any_number}
use Rattle.session_model.specs.Texts.{words}

pub record Noted : Type 0 where
  pub recorders : List Stream
  pub disks : List Stream

-- nothing is told of an owner
abbrev pub untold : Stream
untold = record { blocks = 0; missed = 0; first = 0 }

abbrev pub none_noted : Noted
none_noted =
    record {
      recorders = untold ∷ untold ∷ untold ∷ untold ∷ [];
      disks = untold ∷ untold ∷ untold ∷ untold ∷ [];
    }

-- what is noted of an owner, by its number
abbrev pub stream_at : List Stream → ℕ → Stream
stream_at streams number = slice_index_or streams number untold

abbrev pub stream_of : Noted → Owner → Stream
stream_of noted (Recorder number) = stream_at noted.recorders number
stream_of noted (Disk number) = stream_at noted.disks number

-- whether a block was missed
abbrev pub any_missed : List Stream → Bool
any_missed streams = list_any (λ stream. not (stream.missed == 0)) streams

-- whether a line's first word is this one
abbrev pub begins : List ℕ → List ℕ → Bool
begins line name = bytes_eq (slice_index_or (words line) 0 []) name

abbrev pub is_told : List ℕ → Bool
is_told line =
    begins line (codes "recorder") || begins line (codes "overrun")
    || begins line (codes "disk") || begins line (codes "underrun")

-- an owner's number and its counts, from the words behind the name of its line
abbrev pub counts_row : Reader (ℕ × Stream)
counts_row words = do
  number ← any_number words
  blocks ← any_number number.1
  missed ← any_number blocks.1
  Ok ((number.0, record { blocks = blocks.0; missed = missed.0; first = 0 }), missed.1)

-- an owner's number and a cycle, from the words behind the name of a missed block's line
abbrev pub miss_row : Reader (ℕ × ℕ)
miss_row words = do
  number ← any_number words
  cycle ← any_number number.1
  Ok ((number.0, cycle.0), cycle.1)

-- the first cycle that missed a block stays
abbrev pub with_first : List Stream → ℕ → ℕ → List Stream
with_first streams number cycle =
    if (stream_at streams number).first == 0
    then slice_set streams number (record (stream_at streams number) { first = cycle })
    else streams

abbrev pub with_counts : List Stream → Read (ℕ × Stream) → List Stream
with_counts streams (Ok read) = slice_set streams read.0.0 read.0.1
with_counts streams (Err cause) = streams

abbrev pub with_miss : List Stream → Read (ℕ × ℕ) → List Stream
with_miss streams (Ok read) = with_first streams read.0.0 read.0.1
with_miss streams (Err cause) = streams

abbrev pub heard_with : Noted → List ℕ → Noted
heard_with noted line =
    if begins line (codes "recorder") then record noted { recorders = with_counts noted.recorders (counts_row (drop 1 (words line))) }
    else if begins line (codes "overrun") then record noted { recorders = with_miss noted.recorders (miss_row (drop 1 (words line))) }
    else if begins line (codes "disk") then record noted { disks = with_counts noted.disks (counts_row (drop 1 (words line))) }
    else if begins line (codes "underrun") then record noted { disks = with_miss noted.disks (miss_row (drop 1 (words line))) }
    else noted
