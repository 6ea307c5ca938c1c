use Rattle.disk_runs.proofs.SegmentLemmas.{MissesBehind-many}
use Rattle.disk_runs.proofs.segments.a_segment_misses_behind_its_rings.Goals as goal

pub returns : goal.returns
returns c = MissesBehind-many c.graph_is_of_the_row.ensures c.segments_begin_behind_phases.ensures.start
