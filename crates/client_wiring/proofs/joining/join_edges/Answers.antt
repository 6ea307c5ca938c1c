use Rattle.std.proofs.Common.{◌<◌, ◌++◌, ◌∙◌, [], ap, ap₂, arith, List, filter_map, length, subst, sym}
use Rattle.std.specs.List.{cons_option}
use Rattle.jack_types.specs.declared.ports.Edge.{Edge}
use Rattle.session_model.specs.Ids.{connection, connections}
use Rattle.session_model.specs.State.{State}
use Rattle.cycle_plan.specs.connection_set.specs.Connections.{no_edge}
use Rattle.cycle_plan.specs.port_registry.specs.Registered.{open_clients}
use Rattle.cycle_plan.specs.Graphs.{state_of}
use Rattle.client_wiring.specs.Wirings.{carried_by, heard_of, joint_of}
use Rattle.client_wiring.proofs.EndLemmas.{carried-step, destination-listed, heard-step, ids-low, joint-step, source-listed}
use Rattle.client_wiring.proofs.ListLemmas.{made_more, taken-whole}
use Rattle.client_wiring.proofs.joining.join_edges.Goals as goal

pub end_at-source-requires-clause-ids : goal.end_at-source-requires-clause-ids
end_at-source-requires-clause-ids c = ids-low c.args.plan.now c.ports-ports.ensures.planned c.ports-ports.result.now c.ports-ports.ensures.value

pub end_at-source-requires-clause-listed : goal.end_at-source-requires-clause-listed
end_at-source-requires-clause-listed c =
    source-listed c.args.plan.now c.ports-ports.ensures.planned c.ports-ports.result.now c.ports-ports.ensures.value c.edges-edge-items.result.now c.edges-edge-items.ensures.value c.loop-edge.edge-index c.loop-edge-test.true

pub end_at-destination-requires-clause-ids : goal.end_at-destination-requires-clause-ids
end_at-destination-requires-clause-ids c = ids-low c.args.plan.now c.ports-ports.ensures.planned c.ports-ports.result.now c.ports-ports.ensures.value

pub end_at-destination-requires-clause-listed : goal.end_at-destination-requires-clause-listed
end_at-destination-requires-clause-listed c =
    destination-listed c.args.plan.now c.ports-ports.ensures.planned c.ports-ports.result.now c.ports-ports.ensures.value c.edges-edge-items.result.now c.edges-edge-items.ensures.value c.loop-edge.edge-index c.loop-edge-test.true

pub loop-edge-preserved : goal.loop-edge-preserved
loop-edge-preserved c =
    let within : c.loop-edge.edge-index < length c.args.plan.now.network.set.edges = subst (λ (es : List Edge). c.loop-edge.edge-index < length es) c.edges-edge-items.ensures.value c.loop-edge-test.true in
    record {
      joints = c.put_some.ensures.items
          ∙ ap₂ (λ joints joint. joints ++ cons_option joint []) c.loop-edge.invariant.joints
          (c.joint_of-joint.ensures
          ∙ joint-step c.args.plan.now c.ports-ports.ensures.planned c.loop-edge.edge-index within c.end_at-source.result c.end_at-destination.result
          c.ports-ports.result.now c.nodes-nodes.result.now c.edges-edge-items.result.now c.links-links.result.now
          c.ports-ports.ensures.value c.nodes-nodes.ensures.value c.edges-edge-items.ensures.value c.links-links.ensures.value
          c.end_at-source.ensures c.end_at-destination.ensures c.deref.result.now (c.deref.ensures.value ∙ c.loop-edge.invariant.carried))
          ∙ sym (made_more (joint_of (state_of c.args.plan.now.network) (open_clients c.args.plan.now.nodes) c.args.plan.now.links) (connection c.args.plan.now.network.held.ports) c.args.plan.now.network.set.edges c.loop-edge.edge-index no_edge within);
      carried = c.put_some-in-loop-edge.ensures.items
          ∙ ap₂ (λ carried connection. carried ++ cons_option connection []) c.loop-edge.invariant.carried
          (c.carried_of-connection.ensures
          ∙ carried-step c.args.plan.now c.ports-ports.ensures.planned c.loop-edge.edge-index within c.end_at-source.result c.end_at-destination.result
          c.ports-ports.result.now c.nodes-nodes.result.now c.edges-edge-items.result.now c.links-links.result.now
          c.ports-ports.ensures.value c.nodes-nodes.ensures.value c.edges-edge-items.ensures.value c.links-links.ensures.value
          c.end_at-source.ensures c.end_at-destination.ensures)
          ∙ sym (made_more (carried_by (state_of c.args.plan.now.network) (open_clients c.args.plan.now.nodes) c.args.plan.now.links) (connection c.args.plan.now.network.held.ports) c.args.plan.now.network.set.edges c.loop-edge.edge-index no_edge within);
      heard = c.put_some-in-loop-edge-2.ensures.items
          ∙ ap₂ (λ heard playback. heard ++ cons_option playback []) c.loop-edge.invariant.heard
          (c.heard_of-playback.ensures
          ∙ heard-step c.args.plan.now c.ports-ports.ensures.planned c.loop-edge.edge-index within c.end_at-source.result c.end_at-destination.result
          c.ports-ports.result.now c.nodes-nodes.result.now c.edges-edge-items.result.now c.links-links.result.now
          c.ports-ports.ensures.value c.nodes-nodes.ensures.value c.edges-edge-items.ensures.value c.links-links.ensures.value
          c.end_at-source.ensures c.end_at-destination.ensures)
          ∙ sym (made_more (heard_of (state_of c.args.plan.now.network) (open_clients c.args.plan.now.nodes)) (connection c.args.plan.now.network.held.ports) c.args.plan.now.network.set.edges c.loop-edge.edge-index no_edge within);
      few_joints = omega (arith, c.put_some.ensures.few, c.loop-edge.invariant.few_joints);
      few_carried = omega (arith, c.put_some-in-loop-edge.ensures.few, c.loop-edge.invariant.few_carried);
      few_heard = omega (arith, c.put_some-in-loop-edge-2.ensures.few, c.loop-edge.invariant.few_heard);
      joint_room = omega (arith, c.put_some.ensures.room, c.loop-edge.invariant.joint_room);
      carried_room = omega (arith, c.put_some-in-loop-edge.ensures.room, c.loop-edge.invariant.carried_room);
      heard_room = omega (arith, c.put_some-in-loop-edge-2.ensures.room, c.loop-edge.invariant.heard_room);
    }

pub returns-clause-joints : goal.returns-clause-joints
returns-clause-joints c =
    c.loop-edge.invariant.joints
    ∙ ap (λ (es : List Edge). filter_map (joint_of (state_of c.args.plan.now.network) (open_clients c.args.plan.now.nodes) c.args.plan.now.links) (connections c.args.plan.now.network.held.ports es))
    (taken-whole c.edges-edge-items.result.now c.args.plan.now.network.set.edges c.loop-edge.edge-index c.edges-edge-items.ensures.value c.loop-edge-test.false c.loop-edge.auto.edge-index-end)
    ∙ ap (λ (state : State). filter_map (joint_of state (open_clients c.args.plan.now.nodes) c.args.plan.now.links) state.edges) c.ports-ports.ensures.planned.state

pub returns-clause-carried : goal.returns-clause-carried
returns-clause-carried c =
    c.loop-edge.invariant.carried
    ∙ ap (λ (es : List Edge). filter_map (carried_by (state_of c.args.plan.now.network) (open_clients c.args.plan.now.nodes) c.args.plan.now.links) (connections c.args.plan.now.network.held.ports es))
    (taken-whole c.edges-edge-items.result.now c.args.plan.now.network.set.edges c.loop-edge.edge-index c.edges-edge-items.ensures.value c.loop-edge-test.false c.loop-edge.auto.edge-index-end)
    ∙ ap (λ (state : State). filter_map (carried_by state (open_clients c.args.plan.now.nodes) c.args.plan.now.links) state.edges) c.ports-ports.ensures.planned.state

pub returns-clause-heard : goal.returns-clause-heard
returns-clause-heard c =
    c.loop-edge.invariant.heard
    ∙ ap (λ (es : List Edge). filter_map (heard_of (state_of c.args.plan.now.network) (open_clients c.args.plan.now.nodes)) (connections c.args.plan.now.network.held.ports es))
    (taken-whole c.edges-edge-items.result.now c.args.plan.now.network.set.edges c.loop-edge.edge-index c.edges-edge-items.ensures.value c.loop-edge-test.false c.loop-edge.auto.edge-index-end)
    ∙ ap (λ (state : State). filter_map (heard_of state (open_clients c.args.plan.now.nodes)) state.edges) c.ports-ports.ensures.planned.state
