use Rattle.std.proofs.Common.{◌≡◌, ◌≤◌, length, map, take}
use Rattle.std.specs.Vec.{vec_capacity}
use Rattle.midi_wiring.specs.Ends.{widths_by}
use Rattle.midi_wiring.proofs.wiring.count_widths.Given as goal

abbrev pub invariant-loop-client : goal.invariant-loop-client
invariant-loop-client l = record {
  widths : l.widths.items ≡ map (widths_by l.ports) (take l.client-index l.plan.nodes);
  few : length l.widths.items ≤ l.client-index;
  room : vec_capacity l.fn.widths ≤ vec_capacity l.widths;
}
