use Rattle.front_laws.proofs.FrontLemmas.{unfinished-front}
use Rattle.front_laws.proofs.laws.an_unfinished_file_has_a_front.Goals as goal

pub returns : goal.returns
returns c = unfinished-front
