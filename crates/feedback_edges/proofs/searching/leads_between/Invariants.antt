use Rattle.std.proofs.Common.{◌≡◌, ◌+◌, false, All, length, if◌then◌else◌}
use Rattle.feedback_edges.specs.Search.{AreLed, IsMarked, Passes, unmarked}
use Rattle.feedback_edges.proofs.searching.leads_between.Given as goal

abbrev pub invariant-marking : goal.invariant-marking
invariant-marking l = record {
  size : length l.marked ≡ 67;
  first : IsMarked l.marked l.from;
  led : AreLed l.table l.edges l.from l.marked;
  closed : l.grown ≡ false → All (Passes l.table l.marked) l.edges;
}

abbrev pub decreases-marking : goal.decreases-marking
decreases-marking l = unmarked l.marked + (if l.grown then 1 else 0)
