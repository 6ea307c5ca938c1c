use Rattle.run_laws.proofs.CourseLemmas.{KeepsAny-new}
use Rattle.run_laws.proofs.runs.a_new_session_keeps.Goals as goal

pub returns : goal.returns
returns c = KeepsAny-new c.a_new_driver_keeps.ensures
