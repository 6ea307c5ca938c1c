use Rattle.std.proofs.Common.{◌≡◌, ◌≤◌, length, take, vec_capacity}
use Rattle.steal_workers.specs.Places.{TakesBack}
use Rattle.steal_workers.proofs.Changing.{ChangedFrom}
use Rattle.steal_workers.proofs.seating.take_back.Given as goal

abbrev pub invariant-loop-pass : goal.invariant-loop-pass
invariant-loop-pass g l = record {
  left : length l.row.items ≤ length l.fn.row.items;
  passes : l.row.items ≡ take (length l.row.items) l.fn.row.items;
  changed : ChangedFrom (λ k. TakesBack 1) (length l.row.items) l.fn.places l.places;
  room : vec_capacity l.row ≡ vec_capacity l.fn.row;
}

abbrev pub decreases-loop-pass : goal.decreases-loop-pass
decreases-loop-pass g l = length l.row.items
