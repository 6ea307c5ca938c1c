use Rattle.session_laws.proofs.LoopLemmas.{leads-is_Leads}
use Rattle.session_laws.proofs.loops.test_of_paths.Goals as goal

pub returns : goal.returns
returns g c = λ same is self links a b. leads-is_Leads same is self links a b
