use Rattle.report_laws.proofs.ReportLemmas.{read-whole, whole-read}
use Rattle.report_laws.proofs.laws.whole_by_place.Goals as goal

pub returns : goal.returns
returns c = λ script script_is texts. (whole-read script script_is texts, read-whole script script_is texts)
