use Rattle.std.proofs.Common.{◌<◌, ◌≤◌, ◌==◌, length}
use Rattle.jack_types.specs.declared.replies.Underrun.{Underrun}
use Rattle.session_model.specs.Reports.{underrun_line}
use Rattle.report_lines.specs.Inside.{line_if}
use Rattle.report_lines.proofs.PutLemmas.{all_put, item_cut, same-at, text-filter}
use Rattle.report_lines.proofs.recorders.put_underruns.Goals as goal

pub returns-in_err-put_own_underrun-clause-puts : goal.returns-in_err-put_own_underrun-clause-puts
returns-in_err-put_own_underrun-clause-puts g c =
    let within : c.loop-underrun.underrun-index < length c.args.underruns.now = search in
    item_cut (λ (underrun : Underrun). line_if (underrun.disk == c.args.disk) (underrun_line underrun)) c.args.underruns.now c.loop-underrun.underrun-index _ _ c.put_own_underrun.result c.from_residual.result _ _ _ within (same-at c.args.underruns.now c.loop-underrun.underrun-index _ _ within)
    (text-filter (λ (underrun : Underrun). underrun.disk == c.args.disk) underrun_line c.args.underruns.now) c.loop-underrun.invariant.gained c.put_own_underrun.ensures.puts _ c.in_err-put_own_underrun.was c.from_residual.ensures.0

pub returns-clause-puts : goal.returns-clause-puts
returns-clause-puts g c =
    let past : length c.args.underruns.now ≤ c.loop-underrun.underrun-index = search in
    all_put (λ (underrun : Underrun). line_if (underrun.disk == c.args.disk) (underrun_line underrun)) c.args.underruns.now c.loop-underrun.underrun-index _ _ _ past
    (text-filter (λ (underrun : Underrun). underrun.disk == c.args.disk) underrun_line c.args.underruns.now) c.loop-underrun.invariant.gained
