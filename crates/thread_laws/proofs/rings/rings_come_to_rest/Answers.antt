use Rattle.thread_laws.proofs.SegmentLemmas.{RingsAtRest-phase}
use Rattle.thread_laws.proofs.rings.rings_come_to_rest.Goals as goal

pub returns : goal.returns
returns c = RingsAtRest-phase
