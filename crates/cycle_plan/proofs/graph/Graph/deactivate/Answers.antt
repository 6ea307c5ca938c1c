use Rattle.std.proofs.Common.{◌≡◌, fold, length, None, sym, ◌∙◌, ap, subst}
use Rattle.graph_word.specs.jack_types.specs.declared.commands.Command.TheVariants.{Deactivate}
use Rattle.graph_word.specs.jack_types.specs.declared.replies.Refusal.TheVariants.{NoClient}
use Rattle.graph_word.specs.jack_types.specs.declared.ports.Node.TheVariants.{Client as ClientNode}
use Rattle.feedback_edges.specs.Marking.{AreAmong}
use Rattle.port_registry.specs.Registered.{client_by}
use Rattle.cycle_plan.specs.Rewiring.{Leaves, without_edges_at}
use Rattle.cycle_plan.proofs.EffectLemmas.{applied, deactivated-among, deactivated-network, deactivated-state, refused}
use Rattle.cycle_plan.proofs.NetworkLemmas.{refusal-no_client}
use Rattle.cycle_plan.proofs.graph.Graph.deactivate.Goals as goal

pub mark_anew-requires : goal.mark_anew-requires
mark_anew-requires c =
    let ports : c.as_slice-ports.result.now ≡ c.deactivate.new.self.ports = c.as_slice-ports.ensures ∙ c.ports.ensures.value in
    subst (λ ps. AreAmong ps c.drop_client.new.connections.edges) (sym ports)
    (deactivated-among _ c.self.invariant c.args.name.now c.in-Some.client (sym c.client.ensures ∙ c.in-Some.is) c.deactivate.new.self c.in-Ok.ensures.deactivated c.deactivate.ensures.registered c.in-Ok.ensures.answer
    c.drop_client.new.connections.edges (c.drop_client.ensures.edges ∙ ap (fold (without_edges_at (ClientNode c.in-Some.client.id)) c.self.inside.connections.edges) ports))

pub invariant_of-self-2 : goal.invariant_of-self-2
invariant_of-self-2 c =
    let ports : c.as_slice-ports.result.now ≡ c.deactivate.new.self.ports = c.as_slice-ports.ensures ∙ c.ports.ensures.value in
    deactivated-network _ c.self.invariant c.args.name.now c.in-Some.client (sym c.client.ensures ∙ c.in-Some.is) c.deactivate.new.self c.in-Ok.ensures.deactivated c.deactivate.ensures.registered c.in-Ok.ensures.answer
    c.drop_client.new.connections.edges (c.drop_client.ensures.edges ∙ ap (fold (without_edges_at (ClientNode c.in-Some.client.id)) c.self.inside.connections.edges) ports)
    c.mark_anew.new.connections.edges (length c.edges-count.result.now) (ap length c.edges-count.ensures.edges)
    (subst (λ ps. Leaves ps (length c.edges-count.result.now) c.drop_client.new.connections.edges c.mark_anew.new.connections.edges) ports c.mark_anew.ensures.edges)
    _ (c.mark_anew.ensures.room ∙ c.drop_client.ensures.room) _

pub returns : goal.returns
returns c = λ number.
    let ports : c.as_slice-ports.result.now ≡ c.deactivate.new.self.ports = c.as_slice-ports.ensures ∙ c.ports.ensures.value in
    rw (← c.self.view_is)
    (applied _ number (Deactivate c.args.name.now) _ _ c.in-Ok.ensures.answer
    (deactivated-state _ c.self.invariant c.args.name.now c.in-Some.client (sym c.client.ensures ∙ c.in-Some.is) c.deactivate.new.self c.in-Ok.ensures.deactivated c.deactivate.ensures.registered c.in-Ok.ensures.answer
    c.drop_client.new.connections.edges (c.drop_client.ensures.edges ∙ ap (fold (without_edges_at (ClientNode c.in-Some.client.id)) c.self.inside.connections.edges) ports)
    c.mark_anew.new.connections.edges (length c.edges-count.result.now) (ap length c.edges-count.ensures.edges)
    (subst (λ ps. Leaves ps (length c.edges-count.result.now) c.drop_client.new.connections.edges c.mark_anew.new.connections.edges) ports c.mark_anew.ensures.edges)
    number c.mark_anew.new.connections.room _ (c.deactivate.ensures.after number) c.leave.ensures))

pub returns-in_default : goal.returns-in_default
returns-in_default c = λ number.
    let none : client_by c.args.self.now.held c.args.name.now ≡ None = rw (← c.self.view_is) (sym c.client.ensures ∙ c.in_default.is) in
    refused c.args.self.now number (Deactivate c.args.name.now) NoClient (refusal-no_client c.args.self.now c.args.name.now none)
