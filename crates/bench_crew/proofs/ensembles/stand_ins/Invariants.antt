use Rattle.std.proofs.Common.{◌≡◌, ◌≤◌, vec_capacity, length}
use Rattle.bench_crew.proofs.ensembles.stand_ins.Given as goal

abbrev pub invariant-loop-node : goal.invariant-loop-node
invariant-loop-node g l = (length l.benches.items ≡ l.node) × (l.nodes ≤ vec_capacity l.benches)
