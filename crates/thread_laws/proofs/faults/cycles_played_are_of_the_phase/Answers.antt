use Rattle.thread_laws.proofs.CountLemmas.{kept_within}
use Rattle.thread_laws.proofs.faults.cycles_played_are_of_the_phase.Goals as goal

pub returns : goal.returns
returns c = kept_within
