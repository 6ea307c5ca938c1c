use Rattle.std.proofs.Common.{◌≡◌, ◌≤◌, filter_map, length, take}
use Rattle.std.specs.Vec.{vec_capacity}
use Rattle.cycle_plan.specs.Layouts.{distinct}
use Rattle.cycle_plan.specs.Searching.{link_at_numbers}
use Rattle.cycle_plan.proofs.links.link_nodes.Given as goal

abbrev pub invariant-loop-edge : goal.invariant-loop-edge
invariant-loop-edge l = record {
  links : l.links.items ≡ distinct (filter_map (link_at_numbers l.table l.places) (take l.edge-index l.edges));
  few : length l.links.items ≤ l.edge-index;
  room : vec_capacity l.fn.links ≤ vec_capacity l.links;
}
