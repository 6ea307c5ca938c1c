use Rattle.std.proofs.Common.{◌≡◌, ℕ, ◌<◌, true, false, All, take}
use Rattle.feedback_edges.specs.Search.{AreLed, IsMarked, Passes, unmarked}
use Rattle.feedback_edges.proofs.searching.mark_next.Given as goal

abbrev pub invariant-loop-edge : goal.invariant-loop-edge
invariant-loop-edge l = record {
  kept : (n : ℕ) → IsMarked l.initial.marked n → IsMarked l.marked n;
  led : (from : ℕ) → AreLed l.table l.edges from l.initial.marked → AreLed l.table l.edges from l.marked;
  closed : l.grown ≡ false → All (Passes l.table l.marked) (take l.edge-index l.edges);
  same : l.grown ≡ false → l.marked ≡ l.initial.marked;
  fewer : l.grown ≡ true → unmarked l.marked < unmarked l.initial.marked;
}
