use Rattle.std.proofs.Common.{◌≡◌}
use Rattle.std.specs.Vec.{vec_capacity}
use Rattle.midi_seats.specs.Seating.{SeatsAll}
use Rattle.midi_seats.proofs.seating.seat_all.Given as goal

abbrev pub invariant-loop-client : goal.invariant-loop-client
invariant-loop-client l = record {
  seated : SeatsAll l.nodes l.client-index l.seats.items l.fn.benches l.benches;
  room : vec_capacity l.seats ≡ vec_capacity l.fn.seats;
}
