use Rattle.task_laws.proofs.OpenedLemmas.{client-opened, kind-of_script, owners-later}
use Rattle.task_laws.proofs.scripts.clients_were_opened.Goals as goal

pub returns-clause-clients : goal.returns-clause-clients
returns-clause-clients c = client-opened

pub returns-clause-kinds : goal.returns-clause-kinds
returns-clause-kinds c = kind-of_script

pub returns-clause-owners : goal.returns-clause-owners
returns-clause-owners c = owners-later
