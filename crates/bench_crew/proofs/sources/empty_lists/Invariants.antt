use Rattle.std.proofs.Common.{◌≡◌, ◌≤◌, [], All, vec_capacity, vec_len}
use Rattle.bench_crew.proofs.sources.empty_lists.Given as goal

abbrev pub invariant-loop : goal.invariant-loop
invariant-loop l = (vec_len l.into ≡ l.counter) × (l.nodes ≤ vec_capacity l.into) × All (λ which. (which.items ≡ []) × (512 ≤ vec_capacity which)) l.into.items
