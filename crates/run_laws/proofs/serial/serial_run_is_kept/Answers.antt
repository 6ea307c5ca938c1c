use Rattle.run_laws.proofs.SerialLemmas.{AtPhase-behind, overruns-behind}
use Rattle.run_laws.proofs.serial.serial_run_is_kept.Goals as goal

pub returns-clause-at_end : goal.returns-clause-at_end
returns-clause-at_end c = AtPhase-behind c.accepted_of_legal.ensures.calls c.desk_by_phases.ensures.all c.serial_meaning_is_legal.ensures.numbers c.cycles_of_phases.ensures

pub returns-clause-overruns : goal.returns-clause-overruns
returns-clause-overruns c = overruns-behind c.cycles_of_phases.ensures
