use Rattle.std.proofs.Common.{sym}
use Rattle.session_model.specs.Scripts.{phases}
use Rattle.session_laws.proofs.ListLemmas.{slice_get-map}
use Rattle.script_segments.specs.Segments.{segment_of}
use Rattle.script_segments.proofs.laws.segments_are_the_phases.Goals as goal

pub returns-clause-there : goal.returns-clause-there
returns-clause-there c script done segment e = let w = slice_get-map segment_of (phases script) done segment e in (w.0, w.1, sym w.2)
