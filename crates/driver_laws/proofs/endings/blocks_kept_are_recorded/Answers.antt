use Rattle.driver_laws.proofs.RingLemmas.{kept_blocks-counted}
use Rattle.driver_laws.proofs.WholeLemmas.{samples-recorded}
use Rattle.driver_laws.proofs.endings.blocks_kept_are_recorded.Goals as goal

pub returns-clause-count : goal.returns-clause-count
returns-clause-count c = λ course losses recorder n. kept_blocks-counted course recorder losses n

pub returns-clause-samples : goal.returns-clause-samples
returns-clause-samples c = samples-recorded
