use Rattle.std.proofs.Common.{rules, arith, ◌≡◌, ◌<◌, length, ◌∙◌}
use Rattle.bench_crew.proofs.TurnLemmas.{rooms-now, in_order-next, in_order-all}
use Rattle.bench_crew.proofs.alone.play_in_order.Goals as goal

pub play_node-requires-clause-benches : goal.play_node-requires-clause-benches
play_node-requires-clause-benches g c κs within =
    let sources = c.args.sources.now in (
      c.loop-node.auto.benches ∙ c.requires.benches.0,
      rooms-now g.B.Work.memory g.B.Work.has_room g.B.Work.value_at g.B.Work.after g.B.Work.gives sources.nodes sources.links.items sources.listing.are c.loop-node.node c.args.benches.now c.loop-node.benches c.requires.benches.1 c.loop-node.invariant.0,
    )

pub loop-node-preserved : goal.loop-node-preserved
loop-node-preserved g c =
    let sources = c.args.sources.now in
    let low : c.loop-node.node < sources.nodes = omega (arith, c.loop-node-test.true, c.nodes-node-end.ensures) in (
      in_order-next g.B.Work.memory g.B.Work.has_room g.B.Work.value_at g.B.Work.after g.B.Work.gives sources.nodes sources.links.items sources.listing.are c.loop-node.node c.args.benches.now c.loop-node.benches c.play_node.new.benches low c.requires.benches.0 c.loop-node.invariant.0 c.play_node.ensures.turn,
      search rules,
      search rules,
    )

pub returns-clause-played : goal.returns-clause-played
returns-clause-played g c =
    let sources = c.args.sources.now in
    let end : length c.args.benches.now ≡ c.loop-node.node = omega (arith, c.requires.benches.0, c.nodes-node-end.ensures, c.loop-node-test.false, c.loop-node.auto.node-end) in
    in_order-all g.B.Work.memory g.B.Work.has_room g.B.Work.value_at g.B.Work.after g.B.Work.gives sources.nodes sources.links.items sources.listing.are c.loop-node.node c.args.benches.now c.loop-node.benches end c.loop-node.invariant.0
