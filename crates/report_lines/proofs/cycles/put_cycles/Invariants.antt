use Rattle.std.proofs.Common.{◌≡◌, take, flat_map}
use Rattle.session_model.specs.Reports.{cycle_line}
use Rattle.report_lines.specs.Inside.{IsGathered}
use Rattle.report_lines.specs.Outputs.{cycles_of}
use Rattle.report_lines.proofs.cycles.put_cycles.Given as goal

abbrev pub invariant-loop-i : goal.invariant-loop-i
invariant-loop-i g l = record {
  gathered : IsGathered (g.K.Sink.content l.initial.out) (g.K.Sink.content l.out) l.batch.bytes (flat_map cycle_line (take l.i (cycles_of l.numbers l.moments)));
  kept : g.K.Sink.faults l.out ≡ g.K.Sink.faults l.initial.out;
}
