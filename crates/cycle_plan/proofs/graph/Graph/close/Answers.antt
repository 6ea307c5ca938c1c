use Rattle.std.proofs.Common.{◌≡◌, fold, length, Some, sym, ◌∙◌, ap, subst}
use Rattle.graph_word.specs.jack_types.specs.declared.commands.Command.TheVariants.{Close}
use Rattle.graph_word.specs.jack_types.specs.declared.ports.Node.TheVariants.{Client as ClientNode}
use Rattle.feedback_edges.specs.Marking.{AreAmong}
use Rattle.port_registry.specs.Registered.{client_by}
use Rattle.cycle_plan.specs.Rewiring.{Leaves, without_edges_at}
use Rattle.cycle_plan.proofs.EffectLemmas.{applied, client-listed, client-other, closed-network, closed-state}
use Rattle.cycle_plan.proofs.EndLemmas.{dropped-among}
use Rattle.cycle_plan.proofs.graph.Graph.close.Goals as goal

pub mark_anew-requires : goal.mark_anew-requires
mark_anew-requires c =
    let ports : c.as_slice-ports.result.now ≡ c.self.inside.registry.ports = c.as_slice-ports.ensures ∙ c.ports.ensures.value in
    let found : client_by c.self.inside.registry c.args.name.now ≡ Some c.in-Ok.client = rw (← c.self.view_is) at c.in-Ok.ensures.client in
    subst (λ ps. AreAmong ps c.drop_client.new.connections.edges) (sym ports)
    (dropped-among c.self.inside.registry c.self.invariant.registered c.in-Ok.client
    (client-listed c.self.inside.registry c.args.name.now c.in-Ok.client found) (client-other c.self.inside.registry c.args.name.now c.in-Ok.client found c.in-Ok.ensures.other)
    c.self.inside.connections.edges c.drop_client.new.connections.edges c.self.invariant.ends
    (c.drop_client.ensures.edges ∙ ap (fold (without_edges_at (ClientNode c.in-Ok.client.id)) c.self.inside.connections.edges) ports))

pub invariant_of-self : goal.invariant_of-self
invariant_of-self c =
    let ports : c.as_slice-ports.result.now ≡ c.self.inside.registry.ports = c.as_slice-ports.ensures ∙ c.ports.ensures.value in
    let found : client_by c.self.inside.registry c.args.name.now ≡ Some c.in-Ok.client = rw (← c.self.view_is) at c.in-Ok.ensures.client in
    closed-network _ c.self.invariant c.args.name.now c.in-Ok.client found c.in-Ok.ensures.other
    c.drop_client.new.connections.edges c.mark_anew.new.connections.edges (length c.edges-before.result.now) (ap length c.edges-before.ensures.edges)
    (c.drop_client.ensures.edges ∙ ap (fold (without_edges_at (ClientNode c.in-Ok.client.id)) c.self.inside.connections.edges) ports)
    (subst (λ ps. Leaves ps (length c.edges-before.result.now) c.drop_client.new.connections.edges c.mark_anew.new.connections.edges) ports c.mark_anew.ensures.edges)
    c.close_client.new.self c.in-Ok-close_client.ensures.closed c.close_client.ensures.registered
    _ (c.mark_anew.ensures.room ∙ c.drop_client.ensures.room) _

pub returns : goal.returns
returns c = λ number.
    let ports : c.as_slice-ports.result.now ≡ c.self.inside.registry.ports = c.as_slice-ports.ensures ∙ c.ports.ensures.value in
    let found : client_by c.self.inside.registry c.args.name.now ≡ Some c.in-Ok.client = rw (← c.self.view_is) at c.in-Ok.ensures.client in
    rw (← c.self.view_is)
    (applied _ number (Close c.args.name.now) _ _ (rw (← c.self.view_is) at c.in-Ok.ensures.answer)
    (closed-state _ c.self.invariant c.args.name.now c.in-Ok.client found c.in-Ok.ensures.other
    c.drop_client.new.connections.edges c.mark_anew.new.connections.edges (length c.edges-before.result.now) (ap length c.edges-before.ensures.edges)
    (c.drop_client.ensures.edges ∙ ap (fold (without_edges_at (ClientNode c.in-Ok.client.id)) c.self.inside.connections.edges) ports)
    (subst (λ ps. Leaves ps (length c.edges-before.result.now) c.drop_client.new.connections.edges c.mark_anew.new.connections.edges) ports c.mark_anew.ensures.edges)
    c.close_client.new.self c.in-Ok-close_client.ensures.closed c.close_client.ensures.registered
    number c.mark_anew.new.connections.room _ c.in-Ok-close_client.ensures.answer (c.close_client.ensures.after number) c.leave.ensures))
