use Rattle.stage_laws.proofs.KnownLemmas.{known-kinds}
use Rattle.stage_laws.proofs.owning.kinds_alone_count.Goals as goal

pub returns : goal.returns
returns c = known-kinds
