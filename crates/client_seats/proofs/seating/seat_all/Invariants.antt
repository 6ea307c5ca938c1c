use Rattle.std.proofs.Common.{ℕ, ◌<◌}
use Rattle.port_registry.specs.Registered.{open_clients}
use Rattle.client_seats.specs.Seatings.{HasBench, HasNoPast, IsIdle, IsSeating}
use Rattle.client_seats.specs.Moves.{Moves}
use Rattle.client_seats.proofs.seating.seat_all.Given as goal

abbrev pub invariant-loop-n : goal.invariant-loop-n
invariant-loop-n g l = record {
  seating : IsSeating l.rack l.owners;
  idle : IsIdle l.rack;
  past : HasNoPast (open_clients l.nodes) l.owners;
  moves : (Moves g.G.Guest.sound) (open_clients l.nodes) l.fn.rack l.fn.owners l.rack l.owners;
  seated : (m : ℕ) → m < l.n → HasBench (open_clients l.nodes) l.rack l.owners m m;
}
