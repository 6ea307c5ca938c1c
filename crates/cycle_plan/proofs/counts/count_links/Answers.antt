use Rattle.std.proofs.Common.{◌≡◌, ◌+◌, ◌<◌, length, sym, ◌∙◌, ap, arith, true≢false}
use Rattle.std.specs.Vec.{vec_capacity, vec_len}
use Rattle.std.specs.Prelude.{is_ok}
use Rattle.graph_word.specs.session_model.specs.Activation.{incoming}
use Rattle.cycle_plan.proofs.PlannedLemmas.{room-left}
use Rattle.cycle_plan.proofs.counts.count_links.Goals as goal

pub unreachable-requires : goal.unreachable-requires
unreachable-requires c =
    let less : length c.loop-node.counts.items < vec_capacity c.loop-node.counts =
    room-left (λ n. length (incoming c.args.links.now n) + 1) c.loop-node.node c.args.nodes (vec_capacity c.loop-node.counts) (vec_capacity c.args.counts.now) c.loop-node.counts.items
    c.loop-node.invariant.so_far c.loop-node-test.true c.requires.nodes (omega (arith, c.loop-node.invariant.room, c.clear.ensures.capacity)) c.requires.room in
    let fewer : vec_len c.loop-node.counts < vec_capacity c.loop-node.counts = omega (arith, less, c.loop-node.counts.ok.0) in
    true≢false (sym (c.push.ensures.succeeds fewer) ∙ ap is_ok c.in-Err.is)
