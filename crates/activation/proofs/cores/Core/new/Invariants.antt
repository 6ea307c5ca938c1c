use Rattle.std.proofs.Common.{◌≡◌, ◌≤◌, ◌+◌, length, map, vec_capacity}
use Rattle.session_laws.specs.session_model.specs.Activation.{incoming}
use Rattle.session_laws.specs.session_model.specs.Samples.{below}
use Rattle.activation.proofs.cores.Core.new.Given as goal

abbrev pub invariant-loop-node : goal.invariant-loop-node
invariant-loop-node l = (l.counters.items ≡ map (λ n. length (incoming l.links n) + 1) (below l.node)) × (l.nodes ≤ vec_capacity l.counters)
