-- Links listed by node.
--     IsIndex end count all      by node the positions below `count` of the links that have this node for their end
use Rattle.std.specs.Prelude.{◌≡◌, ◌≤◌, ◌<◌, ◌==◌, ℕ, List, [], length, map, filter, All, slice_index_or, vec_capacity}
use Rattle.std.specs.Global.{Vec}
use Rattle.session_laws.specs.session_model.specs.Samples.{below}

-- each list keeps its room
pub record IsIndex (end : ℕ → ℕ) (count : ℕ) (all : List (Vec ℕ)) : Type 0 where
  pub listed : (n : ℕ) → n < length all → slice_index_or (map (λ (which : Vec ℕ). which.items) all) n [] ≡ filter (λ l. end l == n) (below count)
  pub room : All (λ (which : Vec ℕ). 512 ≤ vec_capacity which) all
