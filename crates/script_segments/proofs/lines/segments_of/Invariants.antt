use Rattle.std.proofs.Common.{◌≡◌, ◌++◌, drop, map}
use Rattle.session_model.specs.Scripts.{phases_of}
use Rattle.script_segments.specs.Segments.{segment_of}
use Rattle.script_segments.proofs.lines.segments_of.Given as goal

-- the segments so far, and those of the lines that are left
abbrev pub invariant-loop-line : goal.invariant-loop-line
invariant-loop-line l = l.found.items ++ map segment_of (phases_of l.set (drop l.line-index l.lines)) ≡ map segment_of (phases_of l.period l.lines)
