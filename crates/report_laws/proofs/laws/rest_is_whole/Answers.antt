use Rattle.report_laws.proofs.ReportLemmas.{rest-read}
use Rattle.report_laws.proofs.laws.rest_is_whole.Goals as goal

pub returns : goal.returns
returns c = λ script script_is texts place it. rest-read script script_is texts place it
