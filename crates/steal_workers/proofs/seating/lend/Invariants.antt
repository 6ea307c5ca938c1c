use Rattle.std.proofs.Common.{◌≡◌, ◌<◌, ℕ, length, get_or, vec_capacity}
use Rattle.crossbeam_deque.specs.Handles.{Pass}
use Rattle.std.specs.Global.{Global}
use Rattle.steal_workers.specs.declared.tallies.Tally.{Tally}
use Rattle.steal_workers.specs.declared.places.Place.{Place}
use Rattle.steal_workers.specs.Places.{IsPassAt, Lends}
use Rattle.steal_workers.proofs.Changing.{ChangedUpTo}
use Rattle.steal_workers.proofs.seating.lend.Given as goal

abbrev pub invariant-loop-place : goal.invariant-loop-place
invariant-loop-place g l = record {
  changed : ChangedUpTo (λ k. Lends 1) l.place-index l.fn.places l.places;
  lent : length l.row.items ≡ l.place-index;
  passes : (k : ℕ) (d : Place g.row.B.Denot g.row.B-Value.Denot g.row.B-Memory.Denot) (e : Pass ℕ Tally Global) → k < l.place-index → IsPassAt (get_or l.places k d) (get_or l.row.items k e);
  room : vec_capacity l.row ≡ vec_capacity l.fn.row;
}
