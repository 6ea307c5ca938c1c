use Rattle.std.proofs.Common.{◌≡◌, take, flat_map}
use Rattle.jack_host.specs.Bytes.{Gains}
use Rattle.session_works.specs.Drivers.{driver_of}
use Rattle.session_ends.proofs.MeterLemmas.{event_text}
use Rattle.session_ends.proofs.reporting.put_events.Given as goal

abbrev pub invariant-loop-entry : goal.invariant-loop-entry
invariant-loop-entry g l = record {
  gained : Gains (g.K.Sink.content l.initial.out) (g.K.Sink.content l.out) (flat_map (event_text (driver_of g.G.Guest.sound l.driver)) (take l.entry-index l.history));
  kept : g.K.Sink.faults l.out ≡ g.K.Sink.faults l.initial.out;
}
