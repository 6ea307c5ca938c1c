use Rattle.std.proofs.Common.{◌≤◌, ℕ, length, vec_capacity}
use Rattle.std.specs.Global.{Global, Vec}
use Rattle.crossbeam_deque.specs.Handles.{Pass}
use Rattle.steal_workers.specs.declared.tallies.Tally.{Tally}
use Rattle.steal_workers.specs.Places.{Paired, Lends, IsPassAt}
use Rattle.steal_workers.proofs.Changing.{ChangedUpTo}
use Rattle.steal_workers.proofs.seating.open.Given as goal

abbrev pub invariant-loop-row : goal.invariant-loop-row
invariant-loop-row g l = record {
  places : Paired (Lends l.row-index) l.fn.places l.places;
  changed : ChangedUpTo (λ k (old new : Vec (Pass ℕ Tally Global)). Paired IsPassAt l.places new.items × (length l.fn.places ≤ vec_capacity new)) l.row-index l.fn.passes l.passes;
}
