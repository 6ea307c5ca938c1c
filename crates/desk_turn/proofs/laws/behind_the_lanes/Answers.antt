use Rattle.desk_turn.proofs.LaneLemmas.{all_behind, done_behind}
use Rattle.desk_turn.proofs.laws.behind_the_lanes.Goals as goal

pub returns-clause-all : goal.returns-clause-all
returns-clause-all c = all_behind

pub returns-clause-done : goal.returns-clause-done
returns-clause-done c = done_behind
