use Rattle.std.proofs.Common.{◌≡◌, ◌∙◌}
use Rattle.cycle_plan.proofs.PlannedLemmas.{CanLayOut-network, LaysOut-network}
use Rattle.cycle_plan.proofs.plan.lay_out.Goals as goal

pub fill-requires : goal.fill-requires
fill-requires c =
    CanLayOut-network c.args.graph.now c.clients.ensures.network c.edges.ensures.few c.clients.result.now c.as_slice.result.now c.edges.result.now
    c.clients.ensures.value (c.as_slice.ensures ∙ c.ports.ensures.value) c.edges.ensures.value

pub returns : goal.returns
returns c = record {
  laid = LaysOut-network c.args.graph.now c.clients.ensures.network c.edges.ensures.few c.clients.result.now c.as_slice.result.now c.edges.result.now
      c.clients.ensures.value (c.as_slice.ensures ∙ c.ports.ensures.value) c.edges.ensures.value
      c.fill.new.self c.fill.ensures.plan c.fill.ensures.joined c.fill.ensures.upward c.fill.ensures.few_nodes c.fill.ensures.few_links;
}
