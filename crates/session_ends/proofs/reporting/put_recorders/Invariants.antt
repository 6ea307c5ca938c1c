use Rattle.std.proofs.Common.{◌≡◌, length, take, flat_map}
use Rattle.jack_host.specs.Bytes.{Gains}
use Rattle.session_model.specs.Samples.{below}
use Rattle.session_ends.proofs.MeterLemmas.{recorder_text}
use Rattle.session_ends.proofs.reporting.put_recorders.Given as goal

abbrev pub invariant-loop-recorder : goal.invariant-loop-recorder
invariant-loop-recorder g l = record {
  gained : Gains (g.K.Sink.content l.initial.out) (g.K.Sink.content l.out) (flat_map (recorder_text l.recorders l.overruns) (take l.recorder (below (length l.recorders))));
  kept : g.K.Sink.faults l.out ≡ g.K.Sink.faults l.initial.out;
}
