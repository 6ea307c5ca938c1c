use Rattle.control_desk.proofs.LegalLemmas.{asked_within, stage_of_lane}
use Rattle.control_desk.proofs.laws.plans_of_lanes.Goals as goal

pub returns-clause-asked : goal.returns-clause-asked
returns-clause-asked c = asked_within

pub returns-clause-stages : goal.returns-clause-stages
returns-clause-stages c = stage_of_lane
