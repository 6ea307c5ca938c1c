use Rattle.std.proofs.Common.{◌≡◌, ◌≤◌, count_by, take}
use Rattle.midi_wiring.specs.Ends.{is_midi_of}
use Rattle.midi_wiring.proofs.ports.count_midi.Given as goal

abbrev pub invariant-loop-port : goal.invariant-loop-port
invariant-loop-port l = record {
  so_far : l.count ≡ count_by (is_midi_of l.node l.way) (take l.port-index l.ports);
  few : l.count ≤ l.port-index;
}
