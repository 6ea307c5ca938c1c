-- What a cast leaves.
--     HasCast sounding rack owned after owned_after plan moment period      each client of the plan has its own bench, as it was, or a new one in its first memory, and all are set for the cycle
use Rattle.std.specs.Prelude.{◌≡◌, ℕ, ◌<◌, ◌≤◌, [], length, Some, map}
use Rattle.jack_types.specs.declared.moments.Moment.{Moment}
use Rattle.session_model.specs.Benches.{node_at}
use Rattle.session_model.specs.Kinds.{Sound, first}
use Rattle.client_kinds.specs.Scores.{Score}
use Rattle.port_registry.specs.Registered.{open_clients}
use Rattle.cycle_plan.specs.Plans.{Planned}
use Rattle.client_benches.specs.Seen.{cleared}
use Rattle.client_wiring.specs.Wirings.{wired_of}
use Rattle.bench_rack.specs.Racks.{Racked, bench_at}
use Rattle.client_tasks.specs.Fillings.{AreJoints}
use Rattle.client_tasks.specs.Tasks.{AreSet, HasRooms}
use Rattle.client_seats.specs.Owners.{Owned, owner_at}
use Rattle.client_seats.specs.Seatings.{HasBench, IsNobodys, memory_of, standing_at}

-- `Casts` of `stage_laws`, over the rack and its owners alone
pub record HasCast (sounding : Score → Sound) (rack : Racked) (owned : Owned) (after : Racked) (owned_after : Owned) (plan : Planned) (moment : Moment) (period : ℕ) : Type 0 where
  pub idle : (p : ℕ) → length plan.nodes ≤ p → cleared (bench_at after p) ≡ bench_at after p
  pub has : (n : ℕ) → n < length plan.nodes → HasBench (open_clients plan.nodes) after owned_after n n
  pub set : AreSet (wired_of plan) plan.links moment period (λ i. []) (length plan.nodes) after
  pub rooms : HasRooms plan.links after
  pub joints : AreJoints (length plan.nodes) (wired_of plan).joints
  pub standings : (n p : ℕ) → n < length plan.nodes → owner_at owned p ≡ Some (node_at (open_clients plan.nodes) n).birth → standing_at after n ≡ standing_at rack p
  pub audio : (n p : ℕ) → n < length plan.nodes → owner_at owned p ≡ Some (node_at (open_clients plan.nodes) n).birth → (bench_at after n).kept.audio ≡ (bench_at rack p).kept.audio
  pub fresh : (n : ℕ) → n < length plan.nodes → IsNobodys owned (node_at (open_clients plan.nodes) n).birth → (standing_at after n).memory ≡ first (map sounding owned.scores) (node_at (open_clients plan.nodes) n).kind
  pub others : (birth : ℕ) → ((n : ℕ) → n < length plan.nodes → (node_at (open_clients plan.nodes) n).birth ≡ birth → ⊥) → memory_of after owned_after birth ≡ memory_of rack owned birth
