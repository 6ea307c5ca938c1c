use Rattle.report_texts.proofs.SameReportLemmas.{turns-few}
use Rattle.script_needs.proofs.limits.cycles_are_few.Goals as goal

pub returns : goal.returns
returns c = turns-few
