use Rattle.client_wiring.proofs.KeptLemmas.{SetsFeedback-wired}
use Rattle.client_wiring.proofs.laws.keeps_by_births.Goals as goal

pub returns : goal.returns
returns c = SetsFeedback-wired
