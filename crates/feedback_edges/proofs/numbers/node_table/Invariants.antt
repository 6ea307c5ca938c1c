use Rattle.std.proofs.Common.{◌≡◌, ℕ, ◌<◌, ◌≤◌, All, drop, get_or, length}
use Rattle.feedback_edges.specs.Search.{number_with}
use Rattle.feedback_edges.proofs.numbers.node_table.Given as goal

abbrev pub invariant-filling : goal.invariant-filling
invariant-filling l = record {
  within : l.place ≤ length l.ports;
  size : length l.table ≡ 2064;
  low : All (λ n. n < 67) l.table;
  held : (id : ℕ) → id < 2064 → get_or l.table id 0 ≡ number_with (drop l.place l.ports) id;
}

abbrev pub decreases-filling : goal.decreases-filling
decreases-filling l = l.place
