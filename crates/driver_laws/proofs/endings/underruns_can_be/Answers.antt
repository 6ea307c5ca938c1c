use Rattle.driver_laws.proofs.WholeLemmas.{Played-from_ring}
use Rattle.driver_laws.proofs.endings.underruns_can_be.Goals as goal

pub returns : goal.returns
returns c = Played-from_ring
