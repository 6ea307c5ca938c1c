use Rattle.std.proofs.Common.{◌<◌, ◌≤◌, ◌==◌, length}
use Rattle.jack_types.specs.declared.replies.Overrun.{Overrun}
use Rattle.session_model.specs.Reports.{overrun_line}
use Rattle.report_lines.specs.Inside.{line_if}
use Rattle.report_lines.proofs.PutLemmas.{all_put, item_cut, same-at, text-filter}
use Rattle.report_lines.proofs.recorders.put_overruns.Goals as goal

pub returns-in_err-put_own_overrun-clause-puts : goal.returns-in_err-put_own_overrun-clause-puts
returns-in_err-put_own_overrun-clause-puts g c =
    let within : c.loop-overrun.overrun-index < length c.args.overruns.now = search in
    item_cut (λ (overrun : Overrun). line_if (overrun.recorder == c.args.recorder) (overrun_line overrun)) c.args.overruns.now c.loop-overrun.overrun-index _ _ c.put_own_overrun.result c.from_residual.result _ _ _ within (same-at c.args.overruns.now c.loop-overrun.overrun-index _ _ within)
    (text-filter (λ (overrun : Overrun). overrun.recorder == c.args.recorder) overrun_line c.args.overruns.now) c.loop-overrun.invariant.gained c.put_own_overrun.ensures.puts _ c.in_err-put_own_overrun.was c.from_residual.ensures.0

pub returns-clause-puts : goal.returns-clause-puts
returns-clause-puts g c =
    let past : length c.args.overruns.now ≤ c.loop-overrun.overrun-index = search in
    all_put (λ (overrun : Overrun). line_if (overrun.recorder == c.args.recorder) (overrun_line overrun)) c.args.overruns.now c.loop-overrun.overrun-index _ _ _ past
    (text-filter (λ (overrun : Overrun). overrun.recorder == c.args.recorder) overrun_line c.args.overruns.now) c.loop-overrun.invariant.gained
