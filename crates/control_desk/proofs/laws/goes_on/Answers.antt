use Rattle.control_desk.proofs.GoingLemmas.{step_goes_on}
use Rattle.control_desk.proofs.LaneLemmas.{done_goes_on, next_stage}
use Rattle.control_desk.proofs.laws.goes_on.Goals as goal

pub returns-clause-done : goal.returns-clause-done
returns-clause-done c = done_goes_on

pub returns-clause-next : goal.returns-clause-next
returns-clause-next c = next_stage

pub returns-clause-step : goal.returns-clause-step
returns-clause-step c = step_goes_on
