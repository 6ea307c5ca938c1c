use Rattle.disk_runs.proofs.SegmentLemmas.{MissesBehind-met}
use Rattle.disk_runs.proofs.segments.meetings_miss_nothing.Goals as goal

pub returns : goal.returns
returns c = MissesBehind-met c.a_meeting_changes_nothing.ensures.fits
