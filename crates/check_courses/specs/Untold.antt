-- A playback that tells nothing.
--     untold format      the file of a checker's driver, which no cycle writes
use Rattle.std.specs.Prelude.{false, None}
use Rattle.jack_types.specs.declared.files.Format.{Format}
use Rattle.driver_words.specs.Tapes.{Tape}

abbrev pub untold : Format → Tape
untold format = record { format = format; name = None; bytes = None; faults = 0; written = 0; stopped = false }
