use Rattle.report_laws.proofs.StepLemmas.{same-place}
use Rattle.report_laws.proofs.laws.one_place.Goals as goal

pub returns : goal.returns
returns c = λ script texts one two a b. same-place script texts one two a b
