use Rattle.task_laws.proofs.PlainLemmas.{clients-old}
use Rattle.task_laws.proofs.scripts.old_scripts_are_plain.Goals as goal

pub returns : goal.returns
returns c = clients-old
