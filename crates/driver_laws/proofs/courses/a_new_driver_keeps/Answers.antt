use Rattle.driver_laws.proofs.OpeningLemmas.{Keeps-none}
use Rattle.driver_laws.proofs.courses.a_new_driver_keeps.Goals as goal

pub returns : goal.returns
returns c = Keeps-none
