use Rattle.session_laws.proofs.RankLemmas.{IsOneSolution-cycle}
use Rattle.session_laws.proofs.cycles.one_solution.Goals as goal

pub returns : goal.returns
returns c = IsOneSolution-cycle
