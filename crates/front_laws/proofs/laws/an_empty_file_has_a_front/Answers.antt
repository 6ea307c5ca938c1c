use Rattle.front_laws.proofs.FrontLemmas.{empty-front}
use Rattle.front_laws.proofs.laws.an_empty_file_has_a_front.Goals as goal

pub returns : goal.returns
returns c = empty-front
