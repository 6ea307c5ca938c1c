use Rattle.report_laws.proofs.ReportLemmas.{begins-read, read-begins}
use Rattle.report_laws.proofs.laws.form_by_lines.Goals as goal

pub returns : goal.returns
returns c = λ script script_is bytes n fits. (begins-read script script_is bytes n, read-begins script script_is bytes n fits)
