use Rattle.std.proofs.Common.{◌≡◌, ◌≤◌, filter_map, length, take}
use Rattle.std.specs.Vec.{vec_capacity}
use Rattle.midi_stage.specs.Sounding.{output_from}
use Rattle.midi_stage.proofs.carrying.carry.Given as goal

abbrev pub invariant-loop-output : goal.invariant-loop-output
invariant-loop-output l = record {
  outputs : l.outputs.items ≡ filter_map (output_from l.seats) (take l.output-index l.given);
  few : length l.outputs.items ≤ l.output-index;
  room : vec_capacity l.outputs ≡ vec_capacity l.fn.outputs;
}
