use Rattle.std.proofs.Common.{ℕ, [], ◌∷◌, map, decimal, codes, ap}
use Rattle.session_model.specs.Reports.{line, overrun_line}
use Rattle.report_lines.specs.Outputs.{overruns_on, text_of}
use Rattle.report_lines.proofs.PutLemmas.{first_cut, first_last}
use Rattle.report_lines.proofs.recorders.put_recorder.Goals as goal

pub returns-in_err-put_recorder_line-clause-puts : goal.returns-in_err-put_recorder_line-clause-puts
returns-in_err-put_recorder_line-clause-puts g c =
    first_cut c.put_recorder_line.result c.from_residual.result _ _ _ _ (text_of (map overrun_line (overruns_on c.args.overruns.now c.args.recorder)))
    (ap (λ (n : ℕ). line (codes "recorder" ∷ decimal c.args.recorder ∷ decimal c.args.blocks ∷ decimal n ∷ [])) c.count_overruns.ensures)
    c.put_recorder_line.ensures.puts _ c.in_err-put_recorder_line.was c.from_residual.ensures.0

pub returns-clause-puts : goal.returns-clause-puts
returns-clause-puts g c =
    first_last c.put_overruns.result _ _ _ _ _ _
    (ap (λ (n : ℕ). line (codes "recorder" ∷ decimal c.args.recorder ∷ decimal c.args.blocks ∷ decimal n ∷ [])) c.count_overruns.ensures)
    c.in_ok-put_recorder_line.ensures.puts c.put_overruns.ensures.puts
