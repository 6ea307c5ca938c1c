-- The segments of a script.
--     segment_of phase      the segment behind a group of `do` lines
--     segments script      those of all phases; the last group's has no cycle
use Rattle.std.specs.Prelude.{List, map}
use Rattle.session_model.specs.Scripts.{Phase, Script, phases}
use Rattle.script_segments.specs.declared.lines.Segment.{Segment}

abbrev pub segment_of : Phase → Segment
segment_of phase = record { period = phase.period; is_freewheel = phase.is_freewheel; cycles = phase.cycles }

abbrev pub segments : Script → List Segment
segments script = map segment_of (phases script)
