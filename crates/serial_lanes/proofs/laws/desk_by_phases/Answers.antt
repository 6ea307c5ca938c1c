use Rattle.serial_lanes.proofs.PhaseLemmas.{behind-all, behind-last, behind_none}
use Rattle.serial_lanes.proofs.laws.desk_by_phases.Goals as goal

pub returns-clause-none : goal.returns-clause-none
returns-clause-none c = behind_none

pub returns-clause-last : goal.returns-clause-last
returns-clause-last c = behind-last

pub returns-clause-all : goal.returns-clause-all
returns-clause-all c = behind-all
