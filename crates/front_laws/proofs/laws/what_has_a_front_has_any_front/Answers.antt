use Rattle.front_laws.proofs.FrontLemmas.{any-front}
use Rattle.front_laws.proofs.laws.what_has_a_front_has_any_front.Goals as goal

pub returns : goal.returns
returns c = any-front
