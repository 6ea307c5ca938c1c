use Rattle.std.proofs.Common.{◌≡◌, ◌≤◌, filter_map, length, take}
use Rattle.std.specs.Vec.{vec_capacity}
use Rattle.session_model.specs.Ids.{connections}
use Rattle.cycle_plan.specs.port_registry.specs.Registered.{open_clients}
use Rattle.cycle_plan.specs.Graphs.{state_of}
use Rattle.client_wiring.specs.Wirings.{carried_by, heard_of, joint_of}
use Rattle.client_wiring.proofs.joining.join_edges.Given as goal

abbrev pub invariant-loop-edge : goal.invariant-loop-edge
invariant-loop-edge l = record {
  joints : l.joints.items ≡ filter_map (joint_of (state_of l.plan.network) (open_clients l.plan.nodes) l.plan.links) (connections l.plan.network.held.ports (take l.edge-index l.plan.network.set.edges));
  carried : l.carried.items ≡ filter_map (carried_by (state_of l.plan.network) (open_clients l.plan.nodes) l.plan.links) (connections l.plan.network.held.ports (take l.edge-index l.plan.network.set.edges));
  heard : l.heard.items ≡ filter_map (heard_of (state_of l.plan.network) (open_clients l.plan.nodes)) (connections l.plan.network.held.ports (take l.edge-index l.plan.network.set.edges));
  few_joints : length l.joints.items ≤ l.edge-index;
  few_carried : length l.carried.items ≤ l.edge-index;
  few_heard : length l.heard.items ≤ l.edge-index;
  joint_room : vec_capacity l.fn.joints ≤ vec_capacity l.joints;
  carried_room : vec_capacity l.fn.carried ≤ vec_capacity l.carried;
  heard_room : vec_capacity l.fn.heard ≤ vec_capacity l.heard;
}
