use Rattle.thread_laws.proofs.LookLemmas.{looks_many}
use Rattle.thread_laws.proofs.rings.cycles_look_no_lower.Goals as goal

pub returns : goal.returns
returns c = looks_many
