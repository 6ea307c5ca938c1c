-- What one get and its put do. No public clause cites this module.
use Rattle.std.specs.Prelude.{◌≡◌, true, length}
use Rattle.record_ring.specs.driver_words.specs.Rings.{Getting}
use Rattle.record_ring.specs.declared.consumer.Got.{Got}
use Rattle.record_ring.specs.declared.consumer.Got.TheVariants.{Block, Empty, Ended}
use Rattle.record_ring.specs.driver_words.specs.Tapes.{Tape}
use Rattle.disk_recorder.specs.Recordings.{FindsNone, Writes}

-- a block was written, or none was there
abbrev pub Passes : Getting → Tape → Getting → Tape → Got → Type 0
Passes getting tape getting_after tape_after Block = Writes 1 getting tape getting_after tape_after
Passes getting tape getting_after tape_after (Empty _ _) = Writes 0 getting tape getting_after tape_after × (getting_after.least ≡ length getting_after.got) × FindsNone getting getting_after
Passes getting tape getting_after tape_after Ended = Writes 0 getting tape getting_after tape_after × (getting_after.least ≡ length getting_after.got) × (getting_after.done ≡ true) × FindsNone getting getting_after
