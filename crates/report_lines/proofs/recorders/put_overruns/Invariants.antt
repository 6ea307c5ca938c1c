use Rattle.std.proofs.Common.{◌≡◌, ◌==◌, take, flat_map}
use Rattle.jack_types.specs.declared.replies.Overrun.{Overrun}
use Rattle.jack_host.specs.Bytes.{Gains}
use Rattle.session_model.specs.Reports.{overrun_line}
use Rattle.report_lines.specs.Inside.{line_if}
use Rattle.report_lines.proofs.recorders.put_overruns.Given as goal

abbrev pub invariant-loop-overrun : goal.invariant-loop-overrun
invariant-loop-overrun g l = record {
  gained : Gains (g.K.Sink.content l.initial.out) (g.K.Sink.content l.out) (flat_map (λ (overrun : Overrun). line_if (overrun.recorder == l.recorder) (overrun_line overrun)) (take l.overrun-index l.overruns));
  kept : g.K.Sink.faults l.out ≡ g.K.Sink.faults l.initial.out;
}
