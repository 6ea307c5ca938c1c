-- What is known of the clients that own benches, or did.
--     AreKnown plan rack owned      they are clients that the plan's changes opened, and who lost its guest is closed
--     SeatsPlan plan rack owned after owned_after      what a seating of the plan's clients changed
use Rattle.std.specs.Prelude.{◌≡◌, ℕ, ◌<◌, ◌≤◌, ◌⊎◌, length, Some}
use Rattle.std.specs.List.{Contains}
use Rattle.session_model.specs.Benches.{node_at}
use Rattle.session_model.specs.State.{OpenClient}
use Rattle.port_registry.specs.Registered.{open_clients}
use Rattle.cycle_plan.specs.Plans.{Planned, state_of_plan}
use Rattle.driver_laws.specs.Drivers.{Remembered}
use Rattle.task_laws.specs.Calls.{AreOwners}
use Rattle.bench_rack.specs.Racks.{Racked}
use Rattle.client_seats.specs.Owners.{Owned, owner_at}
use Rattle.client_seats.specs.Seatings.{kind_at}
use Rattle.client_seats.specs.Moves.{LostGuest, kinds_of}

-- each owner was opened by the plan's changes, with its bench's kind, and owns one bench; who lost its guest was born by then, and is closed
pub record AreKnown (plan : Planned) (rack : Racked) (owned : Owned) : Type 0 where
  pub owners : AreOwners plan.changes (kinds_of rack) owned.births
  pub born : (kept : Remembered) → Contains owned.past kept → kept.birth ≤ length plan.changes
  pub closed : (kept : Remembered) (client : OpenClient) → Contains owned.past kept → Contains (state_of_plan plan).clients client → client.birth ≡ kept.birth → ⊥

-- who owns a bench owned one of its kind before, or is a client of the plan with a bench of its kind; who is of the past was before, or lost its guest to one of these clients
pub record SeatsPlan (plan : Planned) (rack : Racked) (owned : Owned) (after : Racked) (owned_after : Owned) : Type 0 where
  pub owners : (p birth : ℕ) → owner_at owned_after p ≡ Some birth
      → ((q : ℕ) × (owner_at owned q ≡ Some birth) × (kind_at after p ≡ kind_at rack q)) ⊎ ((n : ℕ) × (n < length (open_clients plan.nodes)) × ((node_at (open_clients plan.nodes) n).birth ≡ birth) × (kind_at after p ≡ (node_at (open_clients plan.nodes) n).kind))
  pub lost : (kept : Remembered) → Contains owned_after.past kept → Contains owned.past kept ⊎ LostGuest (open_clients plan.nodes) rack owned kept.birth
