use Rattle.serial_laws.proofs.NumberLemmas.{cycle-is, cycle-there}
use Rattle.serial_laws.proofs.numbers.cycles_of_a_phase.Goals as goal

pub returns-clause-is : goal.returns-clause-is
returns-clause-is c = cycle-is

pub returns-clause-there : goal.returns-clause-there
returns-clause-there c = cycle-there
