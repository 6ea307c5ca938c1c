use Rattle.std.proofs.Common.{◌<◌, ◌++◌, ◌∙◌, [], ap, ap₂, arith, List, filter_map, length, subst, sym}
use Rattle.std.specs.List.{cons_option}
use Rattle.jack_types.specs.declared.ports.Edge.{Edge}
use Rattle.session_model.specs.Ids.{connection, connections}
use Rattle.session_model.specs.State.{State}
use Rattle.connection_set.specs.Connections.{no_edge}
use Rattle.port_registry.specs.Registered.{open_clients}
use Rattle.client_wiring.specs.cycle_plan.specs.Graphs.{state_of}
use Rattle.midi_wiring.specs.Wirings.{midi_joint_of}
use Rattle.midi_wiring.proofs.PortLemmas.{destination-listed, ids-low, joint-step, source-listed}
use Rattle.client_wiring.proofs.ListLemmas.{made_more, taken-whole}
use Rattle.midi_wiring.proofs.joining.join_edges.Goals as goal

pub index_ports-indices-requires-clause-ids : goal.index_ports-indices-requires-clause-ids
index_ports-indices-requires-clause-ids c = ids-low c.args.plan.now c.ports-ports.ensures.planned c.ports-ports.result.now c.ports-ports.ensures.value

pub place_at-source-requires-clause-ids : goal.place_at-source-requires-clause-ids
place_at-source-requires-clause-ids c = ids-low c.args.plan.now c.ports-ports.ensures.planned c.ports-ports.result.now c.ports-ports.ensures.value

pub place_at-source-requires-clause-listed : goal.place_at-source-requires-clause-listed
place_at-source-requires-clause-listed c =
    source-listed c.args.plan.now c.ports-ports.ensures.planned c.ports-ports.result.now c.ports-ports.ensures.value c.edges-edge-items.result.now c.edges-edge-items.ensures.value c.loop-edge.edge-index c.loop-edge-test.true

pub place_at-destination-requires-clause-ids : goal.place_at-destination-requires-clause-ids
place_at-destination-requires-clause-ids c = ids-low c.args.plan.now c.ports-ports.ensures.planned c.ports-ports.result.now c.ports-ports.ensures.value

pub place_at-destination-requires-clause-listed : goal.place_at-destination-requires-clause-listed
place_at-destination-requires-clause-listed c =
    destination-listed c.args.plan.now c.ports-ports.ensures.planned c.ports-ports.result.now c.ports-ports.ensures.value c.edges-edge-items.result.now c.edges-edge-items.ensures.value c.loop-edge.edge-index c.loop-edge-test.true

pub loop-edge-preserved : goal.loop-edge-preserved
loop-edge-preserved c =
    let within : c.loop-edge.edge-index < length c.args.plan.now.network.set.edges = subst (λ (es : List Edge). c.loop-edge.edge-index < length es) c.edges-edge-items.ensures.value c.loop-edge-test.true in
    record {
      joints = c.put_some.ensures.items
          ∙ ap₂ (λ joints joint. joints ++ cons_option joint []) c.loop-edge.invariant.joints
          (c.joint_of-joint.ensures
          ∙ joint-step c.args.plan.now c.ports-ports.ensures.planned c.ports-ports.result.now c.nodes-nodes.result.now c.edges-edge-items.result.now
          c.ports-ports.ensures.value c.nodes-nodes.ensures.value c.edges-edge-items.ensures.value c.loop-edge.edge-index c.loop-edge-test.true
          c.place_at-source.result c.place_at-destination.result c.index-ports-source.result c.index-ports-destination.result c.place_at-source.ensures c.place_at-destination.ensures
          c.index-ports-source.is c.index-ports-destination.is)
          ∙ sym (made_more (midi_joint_of (state_of c.args.plan.now.network) (open_clients c.args.plan.now.nodes)) (connection c.args.plan.now.network.held.ports) c.args.plan.now.network.set.edges c.loop-edge.edge-index no_edge within);
      few = omega (arith, c.put_some.ensures.few, c.loop-edge.invariant.few);
      room = omega (arith, c.put_some.ensures.room, c.loop-edge.invariant.room);
    }

pub returns-clause-joints : goal.returns-clause-joints
returns-clause-joints c =
    c.loop-edge.invariant.joints
    ∙ ap (λ (es : List Edge). filter_map (midi_joint_of (state_of c.args.plan.now.network) (open_clients c.args.plan.now.nodes)) (connections c.args.plan.now.network.held.ports es))
    (taken-whole c.edges-edge-items.result.now c.args.plan.now.network.set.edges c.loop-edge.edge-index c.edges-edge-items.ensures.value c.loop-edge-test.false c.loop-edge.auto.edge-index-end)
    ∙ ap (λ (state : State). filter_map (midi_joint_of state (open_clients c.args.plan.now.nodes)) state.edges) c.ports-ports.ensures.planned.state
