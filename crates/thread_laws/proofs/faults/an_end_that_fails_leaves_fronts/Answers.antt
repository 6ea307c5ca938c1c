use Rattle.thread_laws.proofs.FaultEndLemmas.{end_stands}
use Rattle.thread_laws.proofs.faults.an_end_that_fails_leaves_fronts.Goals as goal

pub returns : goal.returns
returns c = end_stands
