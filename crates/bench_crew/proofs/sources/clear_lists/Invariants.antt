use Rattle.std.proofs.Common.{◌≡◌, ◌≤◌, ◌<◌, ℕ, [], get_or, All, vec_capacity, vec_len}
use Rattle.std.specs.Global.{Vec}
use Rattle.bench_crew.proofs.sources.clear_lists.Given as goal

abbrev pub invariant-loop-node : goal.invariant-loop-node
invariant-loop-node l =
    (vec_len l.into ≡ vec_len l.initial.into)
    × All (λ which. 512 ≤ vec_capacity which) l.into.items
    × ((k : ℕ) (d : Vec ℕ) → k < l.node → (get_or l.into.items k d).items ≡ [])
