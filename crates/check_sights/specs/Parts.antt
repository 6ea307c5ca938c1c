-- The parts of a check.
--     part_name part      the word that a verdict has for it
use Rattle.std.specs.Prelude.{ℕ, List, codes}
use Rattle.jack_types.specs.declared.replies.Part.{Part}
use Rattle.jack_types.specs.declared.replies.Part.TheVariants.{Report, Call, Cycle, Meter, Midi, Recorder, Overrun, Disk, Underrun, Record, Playback}

abbrev pub part_name : Part → List ℕ
part_name Report = codes "report"
part_name Call = codes "call"
part_name Cycle = codes "cycle"
part_name Meter = codes "meter"
part_name Midi = codes "midi"
part_name Recorder = codes "recorder"
part_name Overrun = codes "overrun"
part_name Disk = codes "disk"
part_name Underrun = codes "underrun"
part_name Record = codes "record"
part_name Playback = codes "playback"
