use Rattle.report_laws.proofs.StepLemmas.{more-read, read-more}
use Rattle.report_laws.proofs.laws.one_line_more.Goals as goal

pub returns : goal.returns
returns c = λ script texts place it text behind. (more-read script texts place it text behind, read-more script texts place it text behind)
