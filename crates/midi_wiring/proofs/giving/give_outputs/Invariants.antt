use Rattle.std.proofs.Common.{◌≡◌, ◌≤◌, filter_map, length, take}
use Rattle.std.specs.Vec.{vec_capacity}
use Rattle.session_model.specs.Ids.{open_ports}
use Rattle.port_registry.specs.Registered.{open_clients}
use Rattle.midi_wiring.specs.Wirings.{midi_given_of}
use Rattle.midi_wiring.proofs.giving.give_outputs.Given as goal

abbrev pub invariant-loop-port : goal.invariant-loop-port
invariant-loop-port l = record {
  given : l.given.items ≡ filter_map (midi_given_of (open_clients l.plan.nodes)) (open_ports (take l.port-index l.plan.network.held.ports));
  few : length l.given.items ≤ l.port-index;
  room : vec_capacity l.fn.given ≤ vec_capacity l.given;
}
