use Rattle.control_desk.proofs.LawfulLemmas.{lawful_accepted}
use Rattle.control_desk.proofs.CallLemmas.{of_calls_accepted}
use Rattle.control_desk.proofs.laws.accepted_of_legal.Goals as goal

pub returns-clause-lawful : goal.returns-clause-lawful
returns-clause-lawful c = lawful_accepted

pub returns-clause-calls : goal.returns-clause-calls
returns-clause-calls c = of_calls_accepted
