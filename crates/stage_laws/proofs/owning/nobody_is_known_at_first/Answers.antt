use Rattle.stage_laws.proofs.KnownLemmas.{nobody-known}
use Rattle.stage_laws.proofs.owning.nobody_is_known_at_first.Goals as goal

pub returns : goal.returns
returns c = nobody-known
