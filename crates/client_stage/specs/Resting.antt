-- What a stage leaves where nobody plays.
--     IsNew plan sounds birth memory      the memory in which a client of the plan begins
--     Recalls sounding plan rack owned after owned_after      each client remembers what it did, and who is new begins
--     AreAtRest rack      no bench has work, or anything that it got or gave
--     Rests sounding plan old new      what a stage leaves where one of a plan's clients has no bench
use Rattle.std.specs.Prelude.{◌≡◌, ℕ, ◌<◌, List, length, None, Some, map}
use Rattle.session_model.specs.Benches.{node_at}
use Rattle.session_model.specs.Kinds.{Memory, Sound, first}
use Rattle.client_kinds.specs.Scores.{Score}
use Rattle.port_registry.specs.Registered.{open_clients}
use Rattle.cycle_plan.specs.Plans.{Planned}
use Rattle.client_benches.specs.Seen.{rested}
use Rattle.bench_rack.specs.Racks.{Racked, bench_at}
use Rattle.client_seats.specs.Owners.{Owned}
use Rattle.client_seats.specs.Seatings.{memory_of}
use Rattle.stage_laws.specs.Stages.{Staged}

-- the client of this birth is one of the plan's, and the memory is the first of its kind
pub record IsNew (plan : Planned) (sounds : List Sound) (birth : ℕ) (memory : Memory) : Type 0 where
  pub n : ℕ
  pub node : n < length plan.nodes
  pub client : (node_at (open_clients plan.nodes) n).birth ≡ birth
  pub first_is : memory ≡ first sounds (node_at (open_clients plan.nodes) n).kind

-- who had a memory has it, and who has one and had none is new
pub record Recalls (sounding : Score → Sound) (plan : Planned) (rack : Racked) (owned : Owned) (after : Racked) (owned_after : Owned) : Type 0 where
  pub kept : (birth : ℕ) (memory : Memory) → memory_of rack owned birth ≡ Some memory → memory_of after owned_after birth ≡ Some memory
  pub fresh : (birth : ℕ) (memory : Memory) → memory_of rack owned birth ≡ None → memory_of after owned_after birth ≡ Some memory → IsNew plan (map sounding owned.scores) birth memory

-- no bench has work, a connection or a room, or anything that it got or gave
abbrev pub AreAtRest : Racked → Type 0
AreAtRest rack = (p : ℕ) → rested (bench_at rack p) ≡ bench_at rack p

-- nobody played
pub record Rests (sounding : Score → Sound) (plan : Planned) (old new : Staged) : Type 0 where
  pub benches : AreAtRest new.racked
  pub recalls : Recalls sounding plan old.racked old.owned new.racked new.owned
