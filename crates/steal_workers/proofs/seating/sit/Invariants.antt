use Rattle.std.proofs.Common.{◌≡◌, ◌≤◌, ℕ, length, get_or, take, Some, vec_capacity}
use Rattle.crossbeam_deque.specs.Handles.{Pass}
use Rattle.std.specs.Global.{Global, Vec}
use Rattle.cycle_workers.specs.activation.specs.declared.takens.Seat.{Seat}
use Rattle.steal_workers.specs.declared.tallies.Tally.{Tally}
use Rattle.steal_workers.specs.declared.places.Place.{Place}
use Rattle.steal_workers.specs.Places.{thief_of}
use Rattle.steal_workers.proofs.Changing.{ChangedFrom}
use Rattle.steal_workers.proofs.seating.sit.Given as goal

abbrev pub invariant-loop-seat : goal.invariant-loop-seat
invariant-loop-seat g l = record {
  left : length l.seats.items ≤ length l.fn.places;
  even : length l.passes.items ≡ length l.seats.items;
  seats : l.seats.items ≡ take (length l.seats.items) l.fn.seats.items;
  passes : l.passes.items ≡ take (length l.seats.items) l.fn.passes.items;
  changed : ChangedFrom (λ k (old new : Place g.row.B.Denot g.row.B-Value.Denot g.row.B-Memory.Denot). (seat : Seat g.row.B.Denot g.row.B-Value.Denot g.row.B-Memory.Denot) (row : Vec (Pass ℕ Tally Global)) → new ≡ record old { thief = Some (thief_of (get_or l.fn.seats.items k seat) (get_or l.fn.passes.items k row)) }) (length l.seats.items) l.fn.places l.places;
  room : (vec_capacity l.seats ≡ vec_capacity l.fn.seats) × (vec_capacity l.passes ≡ vec_capacity l.fn.passes);
}

abbrev pub decreases-loop-seat : goal.decreases-loop-seat
decreases-loop-seat g l = length l.seats.items
