use Rattle.serial_lanes.proofs.CallFronts.{calls-next_phase, calls-next_round, calls-whole}
use Rattle.serial_lanes.proofs.laws.calls_by_rounds.Goals as goal

pub returns-clause-round : goal.returns-clause-round
returns-clause-round c = calls-next_round

pub returns-clause-phase : goal.returns-clause-phase
returns-clause-phase c = calls-next_phase

pub returns-clause-whole : goal.returns-clause-whole
returns-clause-whole c = calls-whole
