use Rattle.std.proofs.Common.{arith}
use Rattle.cycle_plan.proofs.PlannedLemmas.{IsPlanned-opening, counts-same}
use Rattle.cycle_plan.proofs.plan.Plan.new.Goals as goal

pub invariant_of-result : goal.invariant_of-result
invariant_of-result c = (
  IsPlanned-opening (record { capture = c.from.result; playback = c.from-2.result }) c.in-Ok.changes.items c.args.capture c.args.playback c.from.ensures c.from-2.ensures c.requires.capture c.requires.playback
      c.in-Ok.ensures.items c.in_ok-graph.graph c.lay_out.new.layout c.lay_out.ensures.laid c.in_ok-graph.ensures.opening,
  counts-same c.lay_out.new.layout c.nodes.result.now c.links.result.now c.count_links.new.counts.items c.count_links.ensures.counts c.nodes.ensures c.links.ensures,
  c.in-Ok.ensures.capacity,
  omega (arith, c.in-Ok-with_capacity.ensures.capacity, c.count_links.ensures.room),
)

pub returns-clause-planned : goal.returns-clause-planned
returns-clause-planned c = (invariant_of-result c).0
