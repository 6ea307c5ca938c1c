use Rattle.session_laws.proofs.PlayedLemmas.{HaveCycle-cycle}
use Rattle.session_laws.proofs.cycles.crew_plays_the_cycle.Goals as goal

pub returns : goal.returns
returns c = HaveCycle-cycle
