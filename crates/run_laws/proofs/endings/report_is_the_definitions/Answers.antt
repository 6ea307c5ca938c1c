use Rattle.run_laws.proofs.ReportLemmas.{report_in-of}
use Rattle.run_laws.proofs.endings.report_is_the_definitions.Goals as goal

pub returns : goal.returns
returns c = report_in-of c.blocks_kept_are_recorded.ensures.count c.cycles_of_phases.ensures
