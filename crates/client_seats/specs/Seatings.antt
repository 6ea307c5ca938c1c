-- Which bench plays which client.
--     memories rack owned, memory_of rack owned birth      the memories of all clients that ever had a bench, and a client's
--     IsSeating rack owned      what stays true of a rack and its owners
--     IsIdle rack      no bench has work
--     HavePeriod rack period      the greatest period of each bench
--     HasBench nodes rack owned n place      the client of node n has the bench at a place
--     IsRefused nodes rack owned      one of these clients can have no bench
--     HasNoPast nodes owned      none of these clients lost its guest to another one
--     IsSameBench before after      what a play keeps of a bench
use Rattle.std.specs.Prelude.{◌≡◌, ℕ, ◌==◌, ◌<◌, ◌≤◌, ◌⊎◌, ⊤, List, [], ◌∷◌, ◌++◌, length, find, slice_get, Option, None, Some, IsSome, option_map}
use Rattle.std.specs.List.{Contains}
use Rattle.jack_types.specs.declared.kinds.Kind.{Kind}
use Rattle.jack_types.specs.declared.kinds.Kind.TheVariants.{Guest}
use Rattle.session_model.specs.Benches.{node_at}
use Rattle.session_model.specs.Kinds.{Memory, no_memory}
use Rattle.session_model.specs.State.{OpenClient}
use Rattle.bench_rack.specs.client_kinds.specs.Scores.{Score}
use Rattle.bench_rack.specs.client_kinds.specs.Standings.{Standing, HasGuest, HasScore}
use Rattle.bench_rack.specs.client_benches.specs.Seen.{Seen, cleared, new_standing}
use Rattle.bench_rack.specs.Racks.{Racked, bench_at}
use Rattle.driver_laws.specs.Drivers.{Remembered}
use Rattle.client_seats.specs.Owners.{Owned, owner_at, pooled}

abbrev pub standing_at : Racked → ℕ → Standing
standing_at rack place = (bench_at rack place).kept.standing

abbrev pub kind_at : Racked → ℕ → Kind
kind_at rack place = (standing_at rack place).kind

-- of each bench that has an owner the owner's birth and the bench's memory, in order of places
abbrev pub owned_memories : List (Option ℕ) → List Seen → List Remembered
owned_memories (Some birth ∷ births) (bench ∷ benches) = record { birth = birth; memory = bench.kept.standing.memory } ∷ owned_memories births benches
owned_memories (None ∷ births) (bench ∷ benches) = owned_memories births benches
owned_memories _ _ = []

-- those of the past come last
abbrev pub memories : Racked → Owned → List Remembered
memories rack owned = owned_memories owned.births rack.benches ++ owned.past

-- the memory of the client of this birth, if it ever had a bench
abbrev pub memory_of : Racked → Owned → ℕ → Option Memory
memory_of rack owned birth = option_map (λ (kept : Remembered). kept.memory) (find (λ (kept : Remembered). kept.birth == birth) (memories rack owned))

-- a guest's bench remembers nothing but its guest's numbers, and whether it is dead
abbrev pub IsBare : Kind → Memory → Type 0
IsBare (Guest guest) memory = memory ≡ record no_memory { numbers = memory.numbers; is_dead = memory.is_dead }
IsBare _ memory = ⊤

-- a guest that is lent is of the bench's number
abbrev pub IsScored : Standing → List Score → Type 0
IsScored standing scores = IsSome standing.score → HasScore standing scores

-- a bench that has an owner, and is of this guest
pub record IsLent (rack : Racked) (owned : Owned) (guest : ℕ) : Type 0 where
  pub place : ℕ
  pub birth : ℕ
  pub owner : owner_at owned place ≡ Some birth
  pub kind : kind_at rack place ≡ Guest guest

-- each bench has at most one owner, and each client owns at most one bench; a bench of nobody is as new, for its greatest period;
-- each guest is in the pool, or lent to a bench of its number that has an owner; no client of the past owns a bench
pub record IsSeating (rack : Racked) (owned : Owned) : Type 0 where
  pub as_many : length owned.births ≡ length rack.benches
  pub as_many_guests : length owned.pool ≡ length owned.scores
  pub apart : (p q birth : ℕ) → owner_at owned p ≡ Some birth → owner_at owned q ≡ Some birth → p ≡ q
  pub free : (p : ℕ) → owner_at owned p ≡ None → standing_at rack p ≡ new_standing (kind_at rack p) (standing_at rack p).period
  pub lent : (p birth : ℕ) → owner_at owned p ≡ Some birth → HasGuest (kind_at rack p) (standing_at rack p).score
  pub scored : (p : ℕ) → IsScored (standing_at rack p) owned.scores
  pub bare : (p : ℕ) → IsBare (kind_at rack p) (standing_at rack p).memory
  pub pool : (guest : ℕ) (score : Score) → pooled owned guest ≡ Some score → slice_get owned.scores guest ≡ Some score
  pub guests : (guest : ℕ) → guest < length owned.scores → IsSome (pooled owned guest) ⊎ IsLent rack owned guest
  pub past : (kept : Remembered) (p : ℕ) → Contains owned.past kept → owner_at owned p ≡ Some kept.birth → ⊥
  pub past_apart : (one other : Remembered) → Contains owned.past one → Contains owned.past other → one.birth ≡ other.birth → one ≡ other
  pub past_peaks : (kept : Remembered) → Contains owned.past kept → kept.memory.peak ≡ 0

abbrev pub IsIdle : Racked → Type 0
IsIdle rack = (p : ℕ) → cleared (bench_at rack p) ≡ bench_at rack p

abbrev pub HavePeriod : Racked → ℕ → Type 0
HavePeriod rack period = (p : ℕ) → p < length rack.benches → (standing_at rack p).period ≡ period

-- the bench is the client's own and of its kind, and has its guest if it asks one
pub record HasBench (nodes : List OpenClient) (rack : Racked) (owned : Owned) (n place : ℕ) : Type 0 where
  pub owner : owner_at owned place ≡ Some (node_at nodes n).birth
  pub kind : kind_at rack place ≡ (node_at nodes n).kind
  pub guest : HasGuest (kind_at rack place) (standing_at rack place).score

abbrev pub IsNobodys : Owned → ℕ → Type 0
IsNobodys owned birth = (p : ℕ) → owner_at owned p ≡ Some birth → ⊥

-- its own bench is of another kind; or it has none, and each bench of its kind has an owner; or there is no guest of its number; or its
-- guest is lent to one of these clients
pub data IsRefused (nodes : List OpenClient) (rack : Racked) (owned : Owned) : Type 0 where
  OtherKind : (n p : ℕ) → n < length nodes → owner_at owned p ≡ Some (node_at nodes n).birth → (kind_at rack p ≡ (node_at nodes n).kind → ⊥)
      → IsRefused nodes rack owned
  NoBench : (n : ℕ) → n < length nodes → IsNobodys owned (node_at nodes n).birth
      → ((p : ℕ) → p < length rack.benches → kind_at rack p ≡ (node_at nodes n).kind → IsSome (owner_at owned p)) → IsRefused nodes rack owned
  NoGuest : (n guest : ℕ) → n < length nodes → IsNobodys owned (node_at nodes n).birth → (node_at nodes n).kind ≡ Guest guest → length owned.scores ≤ guest
      → IsRefused nodes rack owned
  GuestPlays : (n guest m p : ℕ) → n < length nodes → IsNobodys owned (node_at nodes n).birth → (node_at nodes n).kind ≡ Guest guest
      → m < length nodes → owner_at owned p ≡ Some (node_at nodes m).birth → kind_at rack p ≡ Guest guest → IsRefused nodes rack owned

abbrev pub AreApart : List OpenClient → Type 0
AreApart nodes = (n m : ℕ) → n < length nodes → m < length nodes → (node_at nodes n).birth ≡ (node_at nodes m).birth → n ≡ m

abbrev pub HasNoPast : List OpenClient → Owned → Type 0
HasNoPast nodes owned = (n : ℕ) (kept : Remembered) → n < length nodes → Contains owned.past kept → (node_at nodes n).birth ≡ kept.birth → ⊥

-- of the same kind and period, with the same guest
pub record IsSameBench (before after : Standing) : Type 0 where
  pub kind : after.kind ≡ before.kind
  pub period : after.period ≡ before.period
  pub score : after.score ≡ before.score
  pub bare : IsBare before.kind before.memory → IsBare after.kind after.memory
