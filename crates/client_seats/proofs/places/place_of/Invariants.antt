use Rattle.std.proofs.Common.{◌≡◌, ℕ, ◌<◌, Some}
use Rattle.client_seats.specs.Owners.{owner_at}
use Rattle.client_seats.proofs.places.place_of.Given as goal

abbrev pub invariant-loop-place : goal.invariant-loop-place
invariant-loop-place g l = (p : ℕ) → p < l.place → owner_at l.owners p ≡ Some l.birth → ⊥
