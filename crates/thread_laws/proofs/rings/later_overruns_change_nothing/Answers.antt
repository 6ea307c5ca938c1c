use Rattle.thread_laws.proofs.RingLaterLemmas.{AfterSegment-more, kept_blocks-more}
use Rattle.thread_laws.proofs.rings.later_overruns_change_nothing.Goals as goal

pub returns-clause-blocks : goal.returns-clause-blocks
returns-clause-blocks c = kept_blocks-more

pub returns-clause-overruns : goal.returns-clause-overruns
returns-clause-overruns c = AfterSegment-more
