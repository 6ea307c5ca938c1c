use Rattle.std.proofs.Common.{arith}
use Rattle.cycle_plan.specs.Plans.{opening_of}
use Rattle.cycle_plan.proofs.PlannedLemmas.{IsPlanned-filled, counts-same}
use Rattle.cycle_plan.proofs.plan.Plan.fill.Goals as goal

pub replay-requires-clause-replay : goal.replay-requires-clause-replay
replay-requires-clause-replay c = record {
  before = opening_of c.self.inside.base;
  lawful = rw (← c.self.view_is) at c.requires.lawful;
  tempos = c.requires.tempos;
  front = rw (← c.self.view_is) at c.requires.front;
  state_is = c.self.invariant.0.state;
}

pub invariant_of-self : goal.invariant_of-self
invariant_of-self c = (
  IsPlanned-filled c.self.inside.base c.self.inside.changes.items c.replay.new.kept.items c.args.changes.now c.self.inside.graph c.replay.new.graph c.lay_out.new.layout c.self.inside.layout.nodes c.self.inside.layout.links
      c.self.invariant.0 (rw (← c.self.view_is) at c.requires.lawful) c.requires.few c.replay.ensures.kept c.lay_out.ensures.laid c.replay.ensures.state,
  counts-same c.lay_out.new.layout c.nodes.result.now c.links.result.now c.count_links.new.counts.items c.count_links.ensures.counts c.nodes.ensures c.links.ensures,
  omega (arith, c.self.invariant.2, c.replay.ensures.room),
  omega (arith, c.self.invariant.3, c.count_links.ensures.room),
)

pub returns-clause-planned : goal.returns-clause-planned
returns-clause-planned c = (invariant_of-self c).0
