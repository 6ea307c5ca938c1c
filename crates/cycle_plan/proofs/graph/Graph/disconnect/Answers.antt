use Rattle.std.proofs.Common.{◌≡◌, length, Some, None, sym, ◌∙◌, ap, subst}
use Rattle.std.specs.Option.{option_map}
use Rattle.graph_word.specs.jack_types.specs.declared.commands.Command.TheVariants.{Disconnect}
use Rattle.feedback_edges.specs.connection_set.specs.Connections.{ConnectionSet}
use Rattle.cycle_plan.specs.Masters.{master_of}
use Rattle.feedback_edges.specs.Marking.{AreAmong}
use Rattle.cycle_plan.specs.Rewiring.{Leaves}
use Rattle.cycle_plan.proofs.EffectLemmas.{applied, disconnected-among, disconnect-refusal, disconnected-network, disconnected-state, refused_over}
use Rattle.cycle_plan.proofs.graph.Graph.disconnect.Goals as goal

pub mark_anew-requires : goal.mark_anew-requires
mark_anew-requires c =
    let ports : c.as_slice.result.now ≡ c.self.inside.registry.ports = c.as_slice.ensures ∙ c.ports.ensures.value in
    subst (λ ps. AreAmong ps c.remove.new.self.edges) (sym ports)
    (disconnected-among _ c.self.invariant c.args.source.now c.args.destination.now c.port-from.result c.port-to.result c.port-from.ensures c.port-to.ensures c.remove.new.self.edges c.in-Ok.ensures.removed)

pub invariant_of-self-2 : goal.invariant_of-self-2
invariant_of-self-2 c =
    let ports : c.as_slice.result.now ≡ c.self.inside.registry.ports = c.as_slice.ensures ∙ c.ports.ensures.value in
    disconnected-network _ c.self.invariant c.args.source.now c.args.destination.now c.port-from.result c.port-to.result c.port-from.ensures c.port-to.ensures c.remove.new.self.edges c.in-Ok.ensures.removed
    c.in-Ok.ensures.effect c.mark_anew.new.connections.edges (length c.edges-before.result.now) (ap length c.edges-before.ensures.edges)
    (subst (λ ps. Leaves ps (length c.edges-before.result.now) c.remove.new.self.edges c.mark_anew.new.connections.edges) ports c.mark_anew.ensures.edges)
    _ (c.mark_anew.ensures.room ∙ c.remove.ensures.room)

pub returns-in-Err : goal.returns-in-Err
returns-in-Err c = λ number.
    rw (← c.self.view_is)
    (refused_over _ number (Disconnect c.args.source.now c.args.destination.now) c.in-Err.refusal
    (disconnect-refusal _ c.self.invariant c.args.source.now c.args.destination.now c.port-from.result c.port-to.result c.port-from.ensures c.port-to.ensures (Some c.in-Err.refusal) c.remove.ensures.command c.in-Err.ensures.refused)
    _ (ap (λ (s : ConnectionSet). record { held = c.self.inside.registry; set = s; master = option_map master_of c.self.inside.master; timeout = c.self.inside.timeout }) c.in-Err.ensures.err))

pub returns : goal.returns
returns c = λ number.
    let ports : c.as_slice.result.now ≡ c.self.inside.registry.ports = c.as_slice.ensures ∙ c.ports.ensures.value in
    rw (← c.self.view_is)
    (applied _ number (Disconnect c.args.source.now c.args.destination.now) _ _
    (disconnect-refusal _ c.self.invariant c.args.source.now c.args.destination.now c.port-from.result c.port-to.result c.port-from.ensures c.port-to.ensures None c.remove.ensures.command c.in-Ok.ensures.ok)
    (disconnected-state _ c.self.invariant c.args.source.now c.args.destination.now c.port-from.result c.port-to.result c.port-from.ensures c.port-to.ensures c.remove.new.self.edges c.in-Ok.ensures.removed
    c.in-Ok.ensures.effect c.mark_anew.new.connections.edges (length c.edges-before.result.now) (ap length c.edges-before.ensures.edges)
    (subst (λ ps. Leaves ps (length c.edges-before.result.now) c.remove.new.self.edges c.mark_anew.new.connections.edges) ports c.mark_anew.ensures.edges)
    number c.mark_anew.new.connections.room))
