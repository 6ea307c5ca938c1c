use Rattle.serial_laws.proofs.OpeningLemmas.{IsSettled-new, SerialBehind-new, SerialKept-new}
use Rattle.serial_laws.proofs.openings.a_session_stands_before_its_first_phase.Goals as goal

pub returns-clause-settled : goal.returns-clause-settled
returns-clause-settled c = IsSettled-new

pub returns-clause-behind : goal.returns-clause-behind
returns-clause-behind c = λ session new. SerialBehind-new session new c.desk_by_phases.ensures.none

pub returns-clause-kept : goal.returns-clause-kept
returns-clause-kept c = λ session given new serial files. SerialKept-new session new c.a_new_session_keeps.ensures c.new_players_play_their_files.ensures c.new_disks_are_counted.ensures given
