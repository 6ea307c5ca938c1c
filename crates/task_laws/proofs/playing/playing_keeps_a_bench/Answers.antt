use Rattle.std.proofs.Common.{refl}
use Rattle.task_laws.proofs.PlayingLemmas.{empty-kept, fed-kept, idle-kept, peak-kept}
use Rattle.task_laws.proofs.playing.playing_keeps_a_bench.Goals as goal

pub returns-clause-kind : goal.returns-clause-kind
returns-clause-kind c sound kept given = refl

pub returns-clause-period : goal.returns-clause-period
returns-clause-period c sound kept given = refl

pub returns-clause-score : goal.returns-clause-score
returns-clause-score c sound kept given = refl

pub returns-clause-turn : goal.returns-clause-turn
returns-clause-turn c sound kept given = refl

pub returns-clause-wires : goal.returns-clause-wires
returns-clause-wires c sound kept given = refl

pub returns-clause-routes : goal.returns-clause-routes
returns-clause-routes c sound kept given = refl

pub returns-clause-fed : goal.returns-clause-fed
returns-clause-fed c = fed-kept

pub returns-clause-empty : goal.returns-clause-empty
returns-clause-empty c = empty-kept

pub returns-clause-peak : goal.returns-clause-peak
returns-clause-peak c = peak-kept

pub returns-clause-idle : goal.returns-clause-idle
returns-clause-idle c = idle-kept
