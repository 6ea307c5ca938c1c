use Rattle.control_desk.proofs.GoingLemmas.{first_begins}
use Rattle.control_desk.proofs.laws.first_begins.Goals as goal

pub returns : goal.returns
returns c = first_begins
