use Rattle.graph_laws.proofs.PortLemmas.{few-inputs, few-outputs}
use Rattle.graph_laws.proofs.graphs.ports_are_few.Goals as goal

pub returns-clause-inputs : goal.returns-clause-inputs
returns-clause-inputs c = few-inputs

pub returns-clause-outputs : goal.returns-clause-outputs
returns-clause-outputs c = few-outputs
