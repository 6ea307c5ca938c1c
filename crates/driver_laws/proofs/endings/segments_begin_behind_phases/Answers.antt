use Rattle.driver_laws.proofs.SegmentLemmas.{segment_start-is, IsAfterSegment-from}
use Rattle.driver_laws.proofs.endings.segments_begin_behind_phases.Goals as goal

pub returns-clause-start : goal.returns-clause-start
returns-clause-start c = segment_start-is

pub returns-clause-look : goal.returns-clause-look
returns-clause-look c = IsAfterSegment-from
