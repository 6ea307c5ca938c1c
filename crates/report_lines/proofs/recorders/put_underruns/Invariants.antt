use Rattle.std.proofs.Common.{◌≡◌, ◌==◌, take, flat_map}
use Rattle.jack_types.specs.declared.replies.Underrun.{Underrun}
use Rattle.jack_host.specs.Bytes.{Gains}
use Rattle.session_model.specs.Reports.{underrun_line}
use Rattle.report_lines.specs.Inside.{line_if}
use Rattle.report_lines.proofs.recorders.put_underruns.Given as goal

abbrev pub invariant-loop-underrun : goal.invariant-loop-underrun
invariant-loop-underrun g l = record {
  gained : Gains (g.K.Sink.content l.initial.out) (g.K.Sink.content l.out) (flat_map (λ (underrun : Underrun). line_if (underrun.disk == l.disk) (underrun_line underrun)) (take l.underrun-index l.underruns));
  kept : g.K.Sink.faults l.out ≡ g.K.Sink.faults l.initial.out;
}
