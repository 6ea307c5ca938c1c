use Rattle.std.proofs.Common.{◌≡◌, ◌≤◌, vec_capacity, vec_len}
use Rattle.bench_crew.proofs.sources.no_counts.Given as goal

abbrev pub invariant-loop : goal.invariant-loop
invariant-loop l = (vec_len l.counts ≡ l.counter) × (l.nodes ≤ vec_capacity l.counts)
