use Rattle.std.proofs.Common.{◌∙◌, map, ap}
use Rattle.port_registry.specs.Registered.{unlisted}
use Rattle.cycle_plan.proofs.RoomLemmas.{HaveEnds-none, device-opening}
use Rattle.cycle_plan.proofs.graph.Graph.new.Goals as goal

pub invariant_of-result : goal.invariant_of-result
invariant_of-result c = record {
  registered = c.reserve.ensures.registered;
  few_device_ports = device-opening c.reserve.new.self.ports c.args.capture c.args.playback (ap (map unlisted) c.reserve.ensures.ports ∙ c.in_ok-registry.ensures.ports) c.requires.capture c.requires.playback;
  ends = HaveEnds-none c.reserve.new.self.ports c.reserve-2.new.self.edges (c.reserve-2.ensures.edges ∙ c.in_ok-connections.ensures.edges);
  client_room = c.in_ok-reserve.ensures.client_room;
  port_room = c.in_ok-reserve.ensures.port_room;
  edge_room = c.in_ok-reserve-2.ensures.room;
}

pub returns-clause-network : goal.returns-clause-network
returns-clause-network c = invariant_of-result c
