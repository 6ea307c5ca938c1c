use Rattle.run_laws.proofs.ListsLemmas.{HasLists-ran}
use Rattle.run_laws.proofs.runs.lists_are_lawful.Goals as goal

pub returns : goal.returns
returns c = HasLists-ran c.made_where_done.ensures.legal c.cycles_of_phases.ensures
