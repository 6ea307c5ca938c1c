use Rattle.control_desk.proofs.LawfulLemmas.{accepted_up_to, accepted_later, accepted_all}
use Rattle.control_desk.proofs.laws.accepted_by_stages.Goals as goal

pub returns-clause-up_to : goal.returns-clause-up_to
returns-clause-up_to c = accepted_up_to

pub returns-clause-later : goal.returns-clause-later
returns-clause-later c = accepted_later

pub returns-clause-all : goal.returns-clause-all
returns-clause-all c = accepted_all
