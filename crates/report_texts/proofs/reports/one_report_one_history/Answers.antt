use Rattle.report_texts.proofs.SameReportLemmas.{Explained-same}
use Rattle.report_texts.proofs.reports.one_report_one_history.Goals as goal

pub returns : goal.returns
returns c = Explained-same
