use Rattle.cycle_plan.proofs.KindLemmas.{one_client-replay}
use Rattle.cycle_plan.proofs.laws.one_client_of_each.Goals as goal

pub returns : goal.returns
returns c = one_client-replay
