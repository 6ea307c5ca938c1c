use Rattle.rehearsal_laws.proofs.NameLemmas.{clients_are_named, inputs_are_named, outputs_are_named}
use Rattle.rehearsal_laws.proofs.names.names_are_lawful.Goals as goal

pub returns-clause-clients : goal.returns-clause-clients
returns-clause-clients c = clients_are_named

pub returns-clause-inputs : goal.returns-clause-inputs
returns-clause-inputs c = inputs_are_named

pub returns-clause-outputs : goal.returns-clause-outputs
returns-clause-outputs c = outputs_are_named
