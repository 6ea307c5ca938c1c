use Rattle.std.proofs.Common.{ℕ, [], ◌∷◌, map, decimal, codes, ap}
use Rattle.session_model.specs.Reports.{line, underrun_line}
use Rattle.report_lines.specs.Outputs.{underruns_on, text_of}
use Rattle.report_lines.proofs.PutLemmas.{first_cut, first_last}
use Rattle.report_lines.proofs.recorders.put_disk.Goals as goal

pub returns-in_err-put_disk_line-clause-puts : goal.returns-in_err-put_disk_line-clause-puts
returns-in_err-put_disk_line-clause-puts g c =
    first_cut c.put_disk_line.result c.from_residual.result _ _ _ _ (text_of (map underrun_line (underruns_on c.args.underruns.now c.args.disk)))
    (ap (λ (n : ℕ). line (codes "disk" ∷ decimal c.args.disk ∷ decimal c.args.blocks ∷ decimal n ∷ [])) c.count_underruns.ensures)
    c.put_disk_line.ensures.puts _ c.in_err-put_disk_line.was c.from_residual.ensures.0

pub returns-clause-puts : goal.returns-clause-puts
returns-clause-puts g c =
    first_last c.put_underruns.result _ _ _ _ _ _
    (ap (λ (n : ℕ). line (codes "disk" ∷ decimal c.args.disk ∷ decimal c.args.blocks ∷ decimal n ∷ [])) c.count_underruns.ensures)
    c.in_ok-put_disk_line.ensures.puts c.put_underruns.ensures.puts
