use Rattle.std.proofs.Common.{◌≡◌, fold, take}
use Rattle.graph_word.specs.jack_types.specs.declared.ports.Node.TheVariants.{Client as ClientNode}
use Rattle.cycle_plan.specs.Rewiring.{without_edges_at}
use Rattle.cycle_plan.proofs.rewiring.drop_client.Given as goal

abbrev pub invariant-loop-port : goal.invariant-loop-port
invariant-loop-port l = record {
  so_far : l.connections.edges ≡ fold (without_edges_at (ClientNode l.id)) l.initial.connections.edges (take l.port-index l.ports);
  same_room : l.connections.room ≡ l.initial.connections.room;
}
