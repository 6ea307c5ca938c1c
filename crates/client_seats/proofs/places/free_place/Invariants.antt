use Rattle.std.proofs.Common.{◌≡◌, ℕ, ◌<◌, IsSome}
use Rattle.client_seats.specs.Owners.{owner_at}
use Rattle.client_seats.specs.Seatings.{kind_at}
use Rattle.client_seats.proofs.places.free_place.Given as goal

abbrev pub invariant-loop-place : goal.invariant-loop-place
invariant-loop-place g l = (p : ℕ) → p < l.place → kind_at l.rack p ≡ l.kind → IsSome (owner_at l.owners p)
