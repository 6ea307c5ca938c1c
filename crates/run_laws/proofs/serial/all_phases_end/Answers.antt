use Rattle.run_laws.proofs.SerialLemmas.{RanPhases-behind, history-behind, numbers-behind}
use Rattle.run_laws.proofs.serial.all_phases_end.Goals as goal

pub returns-clause-history : goal.returns-clause-history
returns-clause-history c = history-behind c.desk_by_phases.ensures.all

pub returns-clause-numbers : goal.returns-clause-numbers
returns-clause-numbers c = numbers-behind c.serial_meaning_is_legal.ensures.numbers c.cycles_of_phases.ensures

pub returns-clause-ran : goal.returns-clause-ran
returns-clause-ran c = RanPhases-behind c.desk_by_phases.ensures.all c.serial_meaning_is_legal.ensures.numbers c.cycles_of_phases.ensures
