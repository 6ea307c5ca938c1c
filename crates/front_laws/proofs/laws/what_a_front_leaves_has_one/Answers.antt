use Rattle.front_laws.proofs.FrontLemmas.{front-left}
use Rattle.front_laws.proofs.laws.what_a_front_leaves_has_one.Goals as goal

pub returns : goal.returns
returns c = front-left
