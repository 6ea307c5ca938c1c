use Rattle.rehearsal_laws.proofs.PlayedLemmas.{size, units}
use Rattle.rehearsal_laws.proofs.playback.rehearsal_is_played.Goals as goal

pub returns-clause-size : goal.returns-clause-size
returns-clause-size c = size

pub returns-clause-units : goal.returns-clause-units
returns-clause-units c = units
