use Rattle.serial_lanes.proofs.HistoryLemmas.{behind-met, done-met, serial-met}
use Rattle.serial_lanes.proofs.laws.desk_that_meets.Goals as goal

pub returns-clause-serial : goal.returns-clause-serial
returns-clause-serial c = serial-met

pub returns-clause-behind : goal.returns-clause-behind
returns-clause-behind c = behind-met

pub returns-clause-done : goal.returns-clause-done
returns-clause-done c = done-met
