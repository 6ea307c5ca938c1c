use Rattle.std.proofs.Common.{◌≡◌, ◌≤◌, ◌+◌, length, map}
use Rattle.std.specs.Vec.{vec_capacity}
use Rattle.graph_word.specs.session_model.specs.Activation.{incoming}
use Rattle.graph_word.specs.session_model.specs.Samples.{below}
use Rattle.cycle_plan.proofs.counts.count_links.Given as goal

abbrev pub invariant-loop-node : goal.invariant-loop-node
invariant-loop-node l = record {
  so_far : l.counts.items ≡ map (λ n. length (incoming l.links n) + 1) (below l.node);
  room : vec_capacity l.initial.counts ≤ vec_capacity l.counts;
}
