use Rattle.std.proofs.Common.{Some, None, sym, ◌∙◌, ap₂, subst}
use Rattle.graph_word.specs.jack_types.specs.declared.commands.Command.TheVariants.{Connect}
use Rattle.feedback_edges.specs.connection_set.specs.Connections.{connect_refusal}
use Rattle.feedback_edges.specs.Marking.{AreAmong}
use Rattle.cycle_plan.specs.Rewiring.{Joins}
use Rattle.cycle_plan.proofs.EffectLemmas.{applied, connect-refusal, connected-network, connected-state, port-listed, refused}
use Rattle.cycle_plan.proofs.NetworkLemmas.{AreAmong-network, node-is_node}
use Rattle.cycle_plan.proofs.graph.Graph.connect.Goals as goal

pub returns-in-Err : goal.returns-in-Err
returns-in-Err c = λ number.
    rw (← c.self.view_is)
    (refused _ number (Connect c.args.source.now c.args.destination.now) c.in-Err.refusal
    (connect-refusal _ c.self.invariant c.args.source.now c.args.destination.now c.port.result c.port-2.result c.port.ensures c.port-2.ensures (Some c.in-Err.refusal) c.check.ensures.command c.in-Err.ensures.refused))

pub join-requires-clause-among : goal.join-requires-clause-among
join-requires-clause-among c =
    subst (λ ps. AreAmong ps c.self.inside.connections.edges) (sym (c.as_slice.ensures ∙ c.ports.ensures.value))
    (AreAmong-network c.self.inside.registry c.self.invariant.registered c.self.inside.connections.edges c.self.invariant.ends)

pub join-requires-clause-source : goal.join-requires-clause-source
join-requires-clause-source c =
    node-is_node c.self.inside.registry c.self.invariant.registered c.in-Some-Some.from
    (port-listed c.self.inside.registry c.args.source.now c.in-Some-Some.from (sym c.port.ensures ∙ c.in-Some-Some.is-0))

pub join-requires-clause-destination : goal.join-requires-clause-destination
join-requires-clause-destination c =
    node-is_node c.self.inside.registry c.self.invariant.registered c.in-Some-Some.to
    (port-listed c.self.inside.registry c.args.destination.now c.in-Some-Some.to (sym c.port-2.ensures ∙ c.in-Some-Some.is-1))

pub invariant_of-self : goal.invariant_of-self
invariant_of-self c =
    connected-network _ c.self.invariant c.args.source.now c.args.destination.now c.in-Some-Some.from c.in-Some-Some.to (sym c.in-Some-Some.is-0 ∙ c.port.ensures) (sym c.in-Some-Some.is-1 ∙ c.port-2.ensures)
    (sym (ap₂ (connect_refusal c.self.inside.connections.edges) c.in-Some-Some.is-0 c.in-Some-Some.is-1) ∙ c.in-Ok.ensures.ok)
    c.join.new.connections.edges
    (subst (λ ps. Joins ps c.in-Some-Some.from c.in-Some-Some.to c.self.inside.connections.edges c.join.new.connections.edges) (c.as_slice.ensures ∙ c.ports.ensures.value) c.join.ensures.edges)
    c.join.new.connections.room c.join.ensures.room

pub returns : goal.returns
returns c = λ number.
    rw (← c.self.view_is)
    (applied _ number (Connect c.args.source.now c.args.destination.now) _ _
    (connect-refusal _ c.self.invariant c.args.source.now c.args.destination.now c.port.result c.port-2.result c.port.ensures c.port-2.ensures None c.check.ensures.command c.in-Ok.ensures.ok)
    (connected-state _ c.self.invariant c.args.source.now c.args.destination.now c.in-Some-Some.from c.in-Some-Some.to (sym c.in-Some-Some.is-0 ∙ c.port.ensures) (sym c.in-Some-Some.is-1 ∙ c.port-2.ensures)
    (sym (ap₂ (connect_refusal c.self.inside.connections.edges) c.in-Some-Some.is-0 c.in-Some-Some.is-1) ∙ c.in-Ok.ensures.ok)
    c.join.new.connections.edges
    (subst (λ ps. Joins ps c.in-Some-Some.from c.in-Some-Some.to c.self.inside.connections.edges c.join.new.connections.edges) (c.as_slice.ensures ∙ c.ports.ensures.value) c.join.ensures.edges)
    number c.join.new.connections.room))
