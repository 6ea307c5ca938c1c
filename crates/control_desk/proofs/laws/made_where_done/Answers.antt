use Rattle.control_desk.proofs.LaneLemmas.{made_where_done}
use Rattle.control_desk.proofs.LegalLemmas.{legal_where_done}
use Rattle.control_desk.proofs.laws.made_where_done.Goals as goal

pub returns-clause-made : goal.returns-clause-made
returns-clause-made c = made_where_done

pub returns-clause-legal : goal.returns-clause-legal
returns-clause-legal c = legal_where_done
