use Rattle.std.proofs.Common.{◌∙◌}
use Rattle.session_model.specs.Ids.{delay_named}
use Rattle.session_model.specs.Latencies.{delay_in}
use Rattle.latency_ranges.specs.Tables.{handed_within}
use Rattle.latency_ranges.proofs.WiringLemmas.{delays-named, latencies-are, table-is}
use Rattle.latency_ranges.proofs.latencies.ranges.Goals as goal

pub returns-clause-ranges : goal.returns-clause-ranges
returns-clause-ranges c =
    table-is c.args.ports.now c.args.edges.now c.requires.graph c.args.delays.now c.args.mode (delay_named c.args.ports.now c.args.delays.now) (delays-named c.args.ports.now c.args.edges.now c.requires.graph c.args.delays.now)
    c.join_edges.new.table c.join_edges.ensures.room
    (c.join_edges.ensures.far (handed_within c.args.ports.now c.args.edges.now c.args.delays.now c.args.mode _) c.settle.ensures.far)
    (c.join_edges.ensures.near (handed_within c.args.ports.now c.args.edges.now c.args.delays.now c.args.mode _) c.settle.ensures.far)

pub returns-clause-states : goal.returns-clause-states
returns-clause-states c = λ state is.
    table-is c.args.ports.now c.args.edges.now c.requires.graph c.args.delays.now c.args.mode (delay_in state) is.delays_are c.join_edges.new.table c.join_edges.ensures.room
    (c.join_edges.ensures.far (handed_within c.args.ports.now c.args.edges.now c.args.delays.now c.args.mode _) c.settle.ensures.far)
    (c.join_edges.ensures.near (handed_within c.args.ports.now c.args.edges.now c.args.delays.now c.args.mode _) c.settle.ensures.far)
    ∙ latencies-are c.args.ports.now c.args.edges.now c.requires.graph c.args.delays.now c.args.mode state is
