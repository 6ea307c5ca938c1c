use Rattle.driver_laws.proofs.WholeLemmas.{Lost-from_ring}
use Rattle.driver_laws.proofs.endings.overruns_can_be.Goals as goal

pub returns : goal.returns
returns c = Lost-from_ring
