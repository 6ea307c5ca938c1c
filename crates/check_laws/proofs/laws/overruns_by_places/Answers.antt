use Rattle.check_laws.proofs.OverrunLemmas.{lost, overrun-right}
use Rattle.check_laws.proofs.laws.overruns_by_places.Goals as goal

pub returns : goal.returns
returns c = λ given report form. (λ right. lost given report form right, λ each n one. overrun-right given report form each n)
