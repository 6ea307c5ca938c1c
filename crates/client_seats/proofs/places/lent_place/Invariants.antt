use Rattle.std.proofs.Common.{◌≡◌, ℕ, ◌<◌, Some}
use Rattle.jack_types.specs.declared.kinds.Kind.TheVariants.{Guest}
use Rattle.client_seats.specs.Owners.{owner_at}
use Rattle.client_seats.specs.Seatings.{kind_at}
use Rattle.client_seats.proofs.places.lent_place.Given as goal

abbrev pub invariant-loop-place : goal.invariant-loop-place
invariant-loop-place g l = (p birth : ℕ) → p < l.place → kind_at l.rack p ≡ Guest l.guest → owner_at l.owners p ≡ Some birth → ⊥
