use Rattle.run_laws.proofs.LossLemmas.{numbers-published}
use Rattle.run_laws.proofs.runs.numbers_are_published.Goals as goal

pub returns : goal.returns
returns c = numbers-published
