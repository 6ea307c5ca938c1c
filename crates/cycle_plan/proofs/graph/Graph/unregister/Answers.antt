use Rattle.std.proofs.Common.{◌≡◌, length, None, sym, ◌∙◌, ap, subst}
use Rattle.graph_word.specs.jack_types.specs.declared.commands.Command.TheVariants.{Unregister}
use Rattle.graph_word.specs.jack_types.specs.declared.replies.Refusal.TheVariants.{NoPort}
use Rattle.feedback_edges.specs.Marking.{AreAmong}
use Rattle.port_registry.specs.Registered.{port_by}
use Rattle.cycle_plan.specs.Rewiring.{Leaves}
use Rattle.cycle_plan.proofs.EffectLemmas.{applied, refused, unregistered-among, unregistered-network, unregistered-state}
use Rattle.cycle_plan.proofs.NetworkLemmas.{refusal-no_port}
use Rattle.cycle_plan.proofs.graph.Graph.unregister.Goals as goal

pub mark_anew-requires : goal.mark_anew-requires
mark_anew-requires c =
    let ports : c.as_slice.result.now ≡ c.unregister.new.self.ports = c.as_slice.ensures ∙ c.ports.ensures.value in
    subst (λ ps. AreAmong ps c.drop_port.new.self.edges) (sym ports)
    (unregistered-among _ c.self.invariant c.args.name.now c.in-Some.port (sym c.port.ensures ∙ c.in-Some.is) c.unregister.new.self c.in-Ok.ensures.unregistered c.unregister.ensures.registered
    c.drop_port.new.self.edges c.drop_port.ensures.edges)

pub invariant_of-self-2 : goal.invariant_of-self-2
invariant_of-self-2 c =
    let ports : c.as_slice.result.now ≡ c.unregister.new.self.ports = c.as_slice.ensures ∙ c.ports.ensures.value in
    unregistered-network _ c.self.invariant c.args.name.now c.in-Some.port (sym c.port.ensures ∙ c.in-Some.is) c.unregister.new.self c.in-Ok.ensures.unregistered c.unregister.ensures.registered
    c.drop_port.new.self.edges c.drop_port.ensures.edges c.drop_port.ensures.effect
    c.mark_anew.new.connections.edges (length c.edges-before.result.now) (ap length c.edges-before.ensures.edges)
    (subst (λ ps. Leaves ps (length c.edges-before.result.now) c.drop_port.new.self.edges c.mark_anew.new.connections.edges) ports c.mark_anew.ensures.edges)
    _ (c.mark_anew.ensures.room ∙ c.drop_port.ensures.room)

pub returns : goal.returns
returns c = λ number.
    let ports : c.as_slice.result.now ≡ c.unregister.new.self.ports = c.as_slice.ensures ∙ c.ports.ensures.value in
    rw (← c.self.view_is)
    (applied _ number (Unregister c.args.name.now) _ _ c.in-Ok.ensures.answer
    (unregistered-state _ c.self.invariant c.args.name.now c.in-Some.port (sym c.port.ensures ∙ c.in-Some.is) c.unregister.new.self c.in-Ok.ensures.unregistered c.unregister.ensures.registered
    c.drop_port.new.self.edges c.drop_port.ensures.edges c.drop_port.ensures.effect
    c.mark_anew.new.connections.edges (length c.edges-before.result.now) (ap length c.edges-before.ensures.edges)
    (subst (λ ps. Leaves ps (length c.edges-before.result.now) c.drop_port.new.self.edges c.mark_anew.new.connections.edges) ports c.mark_anew.ensures.edges)
    number c.mark_anew.new.connections.room c.in-Ok.ensures.answer (c.unregister.ensures.after number)))

pub returns-in_default : goal.returns-in_default
returns-in_default c = λ number.
    let none : port_by c.args.self.now.held c.args.name.now ≡ None = rw (← c.self.view_is) (sym c.port.ensures ∙ c.in_default.is) in
    refused c.args.self.now number (Unregister c.args.name.now) NoPort (refusal-no_port c.args.self.now c.args.name.now none)
