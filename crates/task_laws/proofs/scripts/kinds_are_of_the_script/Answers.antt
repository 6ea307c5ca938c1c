use Rattle.task_laws.proofs.KindLemmas.{guests-among, kinds-old, kinds-playable}
use Rattle.task_laws.proofs.scripts.kinds_are_of_the_script.Goals as goal

pub returns-clause-playable : goal.returns-clause-playable
returns-clause-playable c = kinds-playable

pub returns-clause-guests : goal.returns-clause-guests
returns-clause-guests c = guests-among

pub returns-clause-old : goal.returns-clause-old
returns-clause-old c = kinds-old
