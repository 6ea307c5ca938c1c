use Rattle.play_words.proofs.CheckLemmas.{no_check_of_number, no_check_of_play}
use Rattle.play_words.proofs.RehearsalLemmas.{no_play, one_number}
use Rattle.play_words.proofs.laws.words_name_one_command.Goals as goal

pub returns-clause-number : goal.returns-clause-number
returns-clause-number c = one_number

pub returns-clause-apart : goal.returns-clause-apart
returns-clause-apart c = no_play

pub returns-clause-no_check_of_play : goal.returns-clause-no_check_of_play
returns-clause-no_check_of_play c = no_check_of_play

pub returns-clause-no_check_of_number : goal.returns-clause-no_check_of_number
returns-clause-no_check_of_number c = no_check_of_number
