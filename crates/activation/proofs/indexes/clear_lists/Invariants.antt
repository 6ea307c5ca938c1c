use Rattle.std.proofs.Common.{◌≡◌, ◌≤◌, ◌<◌, ℕ, [], get_or, map, All, vec_capacity, vec_len}
use Rattle.activation.proofs.indexes.clear_lists.Given as goal

abbrev pub invariant-loop-node : goal.invariant-loop-node
invariant-loop-node l =
    (vec_len l.all ≡ vec_len l.initial.all)
    × All (λ which. 512 ≤ vec_capacity which) l.all.items
    × ((k : ℕ) → k < l.node → get_or (map (λ which. which.items) l.all.items) k [] ≡ [])
