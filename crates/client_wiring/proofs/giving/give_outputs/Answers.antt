use Rattle.std.proofs.Common.{◌<◌, ◌≤◌, ◌++◌, ◌∙◌, [], ap, ap₂, arith, List, filter_map, length, subst, sym}
use Rattle.std.specs.List.{cons_option}
use Rattle.jack_types.specs.declared.ports.Port.{Port}
use Rattle.session_model.specs.Ids.{open_port, open_ports}
use Rattle.session_model.specs.State.{State}
use Rattle.cycle_plan.specs.port_registry.specs.Registered.{open_clients}
use Rattle.cycle_plan.specs.Graphs.{state_of}
use Rattle.client_wiring.specs.Wirings.{given_of}
use Rattle.client_wiring.proofs.EndLemmas.{given-step, ids-low, ports-few}
use Rattle.client_wiring.proofs.ListLemmas.{made_more, taken-whole}
use Rattle.client_wiring.proofs.giving.give_outputs.Goals as goal

pub given_of-output-requires : goal.given_of-output-requires
given_of-output-requires c =
    subst (λ (port : Port). port.id.0 < 2064) (sym c.port-item.is)
    (ids-low c.args.plan.now c.ports-ports.ensures.planned c.ports-ports.result.now c.ports-ports.ensures.value c.loop-port.port-index c.port-item.result c.loop-port-test.true)

pub put_some-requires : goal.put_some-requires
put_some-requires c =
    let few : length c.ports-ports.result.now ≤ 2064 = ports-few c.args.plan.now c.ports-ports.ensures.planned c.ports-ports.result.now c.ports-ports.ensures.value in
    omega (arith, few, c.loop-port.invariant.few, c.loop-port.invariant.room, c.loop-port-test.true, c.requires.room)

pub loop-port-preserved : goal.loop-port-preserved
loop-port-preserved c =
    let within : c.loop-port.port-index < length c.args.plan.now.network.held.ports = subst (λ (ps : List Port). c.loop-port.port-index < length ps) c.ports-ports.ensures.value c.loop-port-test.true in
    record {
      given = c.put_some.ensures.items
          ∙ ap₂ (λ given output. given ++ cons_option output []) c.loop-port.invariant.given
          (c.given_of-output.ensures
          ∙ given-step c.args.plan.now c.ports-ports.ensures.planned c.ports-ports.result.now c.nodes-nodes.result.now c.ports-ports.ensures.value c.nodes-nodes.ensures.value
          c.args.tables.now.places c.requires.places c.loop-port.port-index c.port-item.result c.loop-port-test.true c.port-item.is)
          ∙ sym (made_more (given_of (state_of c.args.plan.now.network) (open_clients c.args.plan.now.nodes)) open_port c.args.plan.now.network.held.ports c.loop-port.port-index c.port-item.result within);
      few = omega (arith, c.put_some.ensures.few, c.loop-port.invariant.few);
      room = omega (arith, c.put_some.ensures.room, c.loop-port.invariant.room);
    }

pub returns-clause-given : goal.returns-clause-given
returns-clause-given c =
    c.loop-port.invariant.given
    ∙ ap (λ (ps : List Port). filter_map (given_of (state_of c.args.plan.now.network) (open_clients c.args.plan.now.nodes)) (open_ports ps))
    (taken-whole c.ports-ports.result.now c.args.plan.now.network.held.ports c.loop-port.port-index c.ports-ports.ensures.value c.loop-port-test.false c.loop-port.auto.port-index-end)
    ∙ ap (λ (state : State). filter_map (given_of state (open_clients c.args.plan.now.nodes)) state.ports) c.ports-ports.ensures.planned.state

pub returns-clause-few : goal.returns-clause-few
returns-clause-few c =
    let few : length c.ports-ports.result.now ≤ 2064 = ports-few c.args.plan.now c.ports-ports.ensures.planned c.ports-ports.result.now c.ports-ports.ensures.value in
    omega (arith, few, c.loop-port.invariant.few, c.loop-port.auto.port-index-end)
