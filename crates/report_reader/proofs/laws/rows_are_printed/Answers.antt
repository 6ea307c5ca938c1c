use Rattle.report_reader.proofs.RowLemmas.{rows-printed}
use Rattle.report_reader.proofs.laws.rows_are_printed.Goals as goal

pub returns : goal.returns
returns c = rows-printed
