use Rattle.serial_lanes.proofs.HistoryLemmas.{published-is}
use Rattle.serial_lanes.proofs.NumberLemmas.{serial_number_is}
use Rattle.serial_lanes.proofs.laws.number_before_cycle.Goals as goal

pub returns-clause-number : goal.returns-clause-number
returns-clause-number c = serial_number_is

pub returns-clause-published : goal.returns-clause-published
returns-clause-published c = published-is
