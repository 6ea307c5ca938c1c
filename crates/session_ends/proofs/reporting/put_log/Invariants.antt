use Rattle.std.proofs.Common.{◌≡◌, take, flat_map}
use Rattle.jack_host.specs.Bytes.{Gains}
use Rattle.session_ends.proofs.MeterLemmas.{logged_text}
use Rattle.session_ends.proofs.reporting.put_log.Given as goal

abbrev pub invariant-loop-logged : goal.invariant-loop-logged
invariant-loop-logged g l = record {
  gained : Gains (g.K.Sink.content l.initial.out) (g.K.Sink.content l.out) (flat_map (logged_text l.client) (take l.logged-index l.log));
  kept : g.K.Sink.faults l.out ≡ g.K.Sink.faults l.initial.out;
}
