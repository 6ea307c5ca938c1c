use Rattle.std.proofs.Common.{◌≡◌, take, flat_map}
use Rattle.jack_types.specs.declared.replies.Entry.{Entry}
use Rattle.session_model.specs.Reports.{call_line, printed_call}
use Rattle.report_lines.specs.Inside.{IsGathered}
use Rattle.report_lines.proofs.calls.put_calls.Given as goal

abbrev pub invariant-loop-entry : goal.invariant-loop-entry
invariant-loop-entry g l = record {
  gathered : IsGathered (g.K.Sink.content l.initial.out) (g.K.Sink.content l.out) l.batch.bytes (flat_map (λ (entry : Entry). call_line (printed_call entry)) (take l.entry-index l.history));
  kept : g.K.Sink.faults l.out ≡ g.K.Sink.faults l.initial.out;
}
