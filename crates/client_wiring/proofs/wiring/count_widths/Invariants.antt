use Rattle.std.proofs.Common.{◌≡◌, ◌≤◌, length, map, take}
use Rattle.std.specs.Vec.{vec_capacity}
use Rattle.client_wiring.specs.Tables.{widths_by}
use Rattle.client_wiring.proofs.wiring.count_widths.Given as goal

abbrev pub invariant-loop-client : goal.invariant-loop-client
invariant-loop-client l = record {
  widths : l.widths.items ≡ map (widths_by l.counts) (take l.client-index l.plan.nodes);
  few : length l.widths.items ≤ l.client-index;
  room : vec_capacity l.fn.widths ≤ vec_capacity l.widths;
}
