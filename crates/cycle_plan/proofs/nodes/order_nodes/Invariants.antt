use Rattle.std.proofs.Common.{◌≡◌, ◌≤◌, All, filter, length, take}
use Rattle.std.specs.Vec.{vec_capacity}
use Rattle.graph_word.specs.jack_types.specs.declared.ports.Client.{Client}
use Rattle.cycle_plan.specs.Layouts.{is_player, ordered}
use Rattle.cycle_plan.specs.Searching.{numbers_lead}
use Rattle.cycle_plan.proofs.nodes.order_nodes.Given as goal

abbrev pub invariant-loop-client : goal.invariant-loop-client
invariant-loop-client l = record {
  nodes : l.nodes.items ≡ ordered (numbers_lead l.table l.edges) (filter is_player (take l.client-index l.clients));
  ids : All (λ (client : Client). client.id.0 ≤ 64) l.nodes.items;
  few : length l.nodes.items ≤ l.client-index;
  room : vec_capacity l.fn.nodes ≤ vec_capacity l.nodes;
}
