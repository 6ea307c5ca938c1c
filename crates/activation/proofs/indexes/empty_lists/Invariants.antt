use Rattle.std.proofs.Common.{◌≡◌, ◌≤◌, All, vec_capacity, vec_len}
use Rattle.activation.proofs.indexes.empty_lists.Given as goal

abbrev pub invariant-loop : goal.invariant-loop
invariant-loop l = (vec_len l.all ≡ l.counter) × (l.nodes ≤ vec_capacity l.all) × All (λ which. 512 ≤ vec_capacity which) l.all.items
