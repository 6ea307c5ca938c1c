use Rattle.run_laws.proofs.LossLemmas.{Lost-ran, Played-ran}
use Rattle.run_laws.proofs.runs.misses_can_be.Goals as goal

pub returns-clause-overruns : goal.returns-clause-overruns
returns-clause-overruns c = Lost-ran c.cycles_of_phases.ensures

pub returns-clause-underruns : goal.returns-clause-underruns
returns-clause-underruns c = Played-ran c.cycles_of_phases.ensures
