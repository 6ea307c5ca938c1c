use Rattle.driver_laws.proofs.StepLemmas.{graph-now}
use Rattle.driver_laws.proofs.cycling.graph_is_of_the_row.Goals as goal

pub returns : goal.returns
returns c = λ driver after course steps fits. graph-now driver after steps course fits
