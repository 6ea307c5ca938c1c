use Rattle.report_laws.proofs.ReportLemmas.{few-read, read-few}
use Rattle.report_laws.proofs.laws.form_of_few_lines.Goals as goal

pub returns : goal.returns
returns c = λ script script_is bytes n few. (few-read script script_is bytes n few, read-few script script_is bytes n)
