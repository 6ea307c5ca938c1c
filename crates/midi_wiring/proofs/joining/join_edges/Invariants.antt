use Rattle.std.proofs.Common.{◌≡◌, ◌≤◌, filter_map, length, take}
use Rattle.std.specs.Vec.{vec_capacity}
use Rattle.session_model.specs.Ids.{connections}
use Rattle.port_registry.specs.Registered.{open_clients}
use Rattle.client_wiring.specs.cycle_plan.specs.Graphs.{state_of}
use Rattle.midi_wiring.specs.Wirings.{midi_joint_of}
use Rattle.midi_wiring.proofs.joining.join_edges.Given as goal

abbrev pub invariant-loop-edge : goal.invariant-loop-edge
invariant-loop-edge l = record {
  joints : l.joints.items ≡ filter_map (midi_joint_of (state_of l.plan.network) (open_clients l.plan.nodes)) (connections l.plan.network.held.ports (take l.edge-index l.plan.network.set.edges));
  few : length l.joints.items ≤ l.edge-index;
  room : vec_capacity l.fn.joints ≤ vec_capacity l.joints;
}
