use Rattle.driver_laws.proofs.FitLemmas.{content-of_calls}
use Rattle.driver_laws.proofs.cycling.content_is_of_calls.Goals as goal

pub returns : goal.returns
returns c = content-of_calls
