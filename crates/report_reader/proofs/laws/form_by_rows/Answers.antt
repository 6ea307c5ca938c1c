use Rattle.report_reader.proofs.RowLemmas.{form-rows, rows-form}
use Rattle.report_reader.proofs.laws.form_by_rows.Goals as goal

pub returns : goal.returns
returns c = λ script script_is report. (form-rows script script_is report, λ both. rows-form script script_is report both.0 both.1)
