use Rattle.std.proofs.Common.{◌≡◌, ◌≤◌, filter_map, length, take}
use Rattle.std.specs.Vec.{vec_capacity}
use Rattle.session_model.specs.Ids.{open_ports}
use Rattle.cycle_plan.specs.port_registry.specs.Registered.{open_clients}
use Rattle.cycle_plan.specs.Graphs.{state_of}
use Rattle.client_wiring.specs.Wirings.{given_of}
use Rattle.client_wiring.proofs.giving.give_outputs.Given as goal

abbrev pub invariant-loop-port : goal.invariant-loop-port
invariant-loop-port l = record {
  given : l.given.items ≡ filter_map (given_of (state_of l.plan.network) (open_clients l.plan.nodes)) (open_ports (take l.port-index l.plan.network.held.ports));
  few : length l.given.items ≤ l.port-index;
  room : vec_capacity l.fn.given ≤ vec_capacity l.given;
}
