use Rattle.std.proofs.Common.{◌≡◌, ◌+◌, length}
use Rattle.std.specs.Prelude.{vec_capacity}
use Rattle.client_benches.specs.Wires.{kept_count}
use Rattle.client_benches.proofs.setting.unwire.Given as goal

abbrev pub invariant-loop-wire : goal.invariant-loop-wire
invariant-loop-wire l = record {
  spare : length l.spare.items + kept_count l.wires.items ≡ length l.initial.spare.items + kept_count l.initial.wires.items;
  wires_room : vec_capacity l.wires ≡ vec_capacity l.initial.wires;
  spare_room : vec_capacity l.spare ≡ vec_capacity l.initial.spare;
}

abbrev pub decreases-loop-wire : goal.decreases-loop-wire
decreases-loop-wire l = length l.wires.items
