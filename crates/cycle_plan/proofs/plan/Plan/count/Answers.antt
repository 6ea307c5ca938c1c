use Rattle.std.proofs.Common.{◌≡◌, ◌+◌, ◌<◌, get_or, length, sym, ◌∙◌, ap, arith}
use Rattle.graph_word.specs.session_model.specs.Activation.{incoming}
use Rattle.port_registry.specs.session_laws.proofs.ActivationLemmas.{get_or-map_below, length-map_below}
use Rattle.cycle_plan.proofs.plan.Plan.count.Goals as goal

pub index-requires : goal.index-requires
index-requires c =
    let less : c.args.node < length c.self.inside.layout.nodes = rw (← c.self.view_is) at c.requires in
    let long : length c.self.inside.counts.items ≡ length c.self.inside.layout.nodes = ap length c.self.invariant.1 ∙ length-map_below (λ n. length (incoming c.self.inside.layout.links n) + 1) (length c.self.inside.layout.nodes) in
    omega (arith, less, long, c.self.inside.counts.ok.0)

pub returns : goal.returns
returns c =
    let less : c.args.node < length c.self.inside.layout.nodes = rw (← c.self.view_is) at c.requires in
    rw (← c.self.view_is)
    (c.index.ensures ∙ ap (λ xs. get_or xs c.args.node c.index.result.now) c.self.invariant.1
    ∙ get_or-map_below (λ n. length (incoming c.self.inside.layout.links n) + 1) (length c.self.inside.layout.nodes) c.args.node c.index.result.now less)
