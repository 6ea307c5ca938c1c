use Rattle.serial_laws.proofs.TurnLemmas.{AreExact-begun, SerialDesk-begun, run-begun}
use Rattle.serial_laws.proofs.numbers.a_phase_begins_exactly.Goals as goal

pub returns-clause-desk : goal.returns-clause-desk
returns-clause-desk c = λ session after done phase here at sound behind begun exact. SerialDesk-begun session after done begun sound c.round_of_lanes.ensures c.desk_that_meets.ensures.serial phase here at

pub returns-clause-exact : goal.returns-clause-exact
returns-clause-exact c = λ session after done phase here at sound behind begun exact. AreExact-begun session after done begun sound exact

pub returns-clause-same : goal.returns-clause-same
returns-clause-same c = run-begun
