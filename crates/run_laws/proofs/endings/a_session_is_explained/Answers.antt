use Rattle.run_laws.proofs.WholeLemmas.{Explained-whole}
use Rattle.run_laws.proofs.endings.a_session_is_explained.Goals as goal

pub returns : goal.returns
returns c = Explained-whole c.blocks_kept_are_recorded.ensures.count c.cycles_of_phases.ensures
