use Rattle.driver_laws.proofs.FitLemmas.{Keeps-many}
use Rattle.driver_laws.proofs.courses.many_cycles_keep.Goals as goal

pub returns : goal.returns
returns c = Keeps-many
