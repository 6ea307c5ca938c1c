use Rattle.front_laws.proofs.FrontLemmas.{finished-front}
use Rattle.front_laws.proofs.laws.a_finished_file_has_a_front.Goals as goal

pub returns : goal.returns
returns c = finished-front
