use Rattle.std.proofs.Common.{◌≡◌, ◌<◌, ℕ, length, get_or, Some, None, vec_capacity}
use Rattle.crossbeam_deque.specs.Handles.{Pass}
use Rattle.std.specs.Global.{Global, Vec}
use Rattle.cycle_workers.specs.activation.specs.declared.takens.Seat.{Seat}
use Rattle.steal_workers.specs.declared.tallies.Tally.{Tally}
use Rattle.steal_workers.specs.declared.places.Place.{Place}
use Rattle.steal_workers.specs.Places.{thief_of}
use Rattle.steal_workers.proofs.Changing.{ChangedUpTo}
use Rattle.steal_workers.proofs.seating.rise.Given as goal

abbrev pub invariant-loop-place : goal.invariant-loop-place
invariant-loop-place g l = record {
  risen : (length l.seats.items ≡ l.place-index) × (length l.passes.items ≡ l.place-index);
  thieves : (k : ℕ) (place : Place g.row.B.Denot g.row.B-Value.Denot g.row.B-Memory.Denot) (seat : Seat g.row.B.Denot g.row.B-Value.Denot g.row.B-Memory.Denot) (row : Vec (Pass ℕ Tally Global)) → k < l.place-index → (get_or l.fn.places k place).thief ≡ Some (thief_of (get_or l.seats.items k seat) (get_or l.passes.items k row));
  changed : ChangedUpTo (λ k (old new : Place g.row.B.Denot g.row.B-Value.Denot g.row.B-Memory.Denot). new ≡ record old { thief = None }) l.place-index l.fn.places l.places;
  room : (vec_capacity l.seats ≡ vec_capacity l.fn.seats) × (vec_capacity l.passes ≡ vec_capacity l.fn.passes);
}
