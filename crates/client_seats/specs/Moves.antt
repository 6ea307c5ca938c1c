-- How benches go from client to client.
--     with_standing rack place standing      the rack where the bench at a place has another kind, guest or memory
--     emptied standing      what is left of a bench whose guest leaves
--     lost owned place birth memory guest score      the owners when a client's guest goes back to the pool
--     IsEquipped rack owned after owned_after place      the bench at a place got its guest
--     TakesBack nodes rack owned after owned_after guest      a guest was taken back from a client's bench
--     Brings rack owned after owned_after from to      the benches at two places, and their owners, were exchanged
--     Gives nodes rack owned after owned_after n place      the client of a node got the bench at a place, which nobody had
--     Moves nodes rack owned after owned_after      what changed for these clients, whatever of them were seated
use Rattle.std.specs.Prelude.{◌≡◌, ◌≢◌, ℕ, ◌<◌, ◌++◌, ◌∷◌, ◌⊎◌, false, List, [], length, map, slice_set, Some, None, IsSome}
use Rattle.std.specs.List.{Contains}
use Rattle.std.specs.List.Sorted.{IsPermutation}
use Rattle.jack_types.specs.declared.kinds.Kind.{Kind}
use Rattle.jack_types.specs.declared.kinds.Kind.TheVariants.{Guest}
use Rattle.session_model.specs.Benches.{node_at}
use Rattle.session_model.specs.Kinds.{Memory, first}
use Rattle.session_model.specs.State.{OpenClient}
use Rattle.session_model.specs.Kinds.{Sound}
use Rattle.bench_rack.specs.client_kinds.specs.Scores.{Score}
use Rattle.bench_rack.specs.client_kinds.specs.Standings.{HasGuest, Standing}
use Rattle.bench_rack.specs.client_benches.specs.Seen.{Seen}
use Rattle.bench_rack.specs.Racks.{Racked, bench_at, with_bench}
use Rattle.driver_laws.specs.Drivers.{Remembered}
use Rattle.client_seats.specs.Owners.{Owned, owner_at, pooled}
use Rattle.client_seats.specs.Seatings.{HasBench, HavePeriod, IsBare, IsIdle, IsScored, IsSeating, IsNobodys, kind_at, standing_at}

abbrev pub with_standing : Racked → ℕ → Standing → Racked
with_standing rack place standing = with_bench rack place (record (bench_at rack place) { kept = record (bench_at rack place).kept { standing = standing } })

abbrev pub emptied : Standing → Standing
emptied standing = record standing { score = None; memory = record standing.memory { numbers = []; is_dead = false } }

abbrev pub lost : Owned → ℕ → ℕ → Memory → ℕ → Score → Owned
lost owned place birth memory guest score = record owned {
  births = slice_set owned.births place None;
  pool = slice_set owned.pool guest (Some score);
  past = owned.past ++ record { birth = birth; memory = memory } ∷ [];
}

abbrev pub kinds_of : Racked → List Kind
kinds_of rack = map (λ (bench : Seen). bench.kept.standing.kind) rack.benches

-- a client had a bench, and the bench at this place is that one as it was
pub record HadBench (rack : Racked) (owned : Owned) (after : Racked) (birth place : ℕ) : Type 0 where
  pub before : ℕ
  pub owner : owner_at owned before ≡ Some birth
  pub same : (bench_at after place).kept ≡ (bench_at rack before).kept

-- a client of these nodes had no bench, and the bench at this place is of its kind and in its first memory
pub record HasNewBench (sound : Score → Sound) (nodes : List OpenClient) (owned : Owned) (after : Racked) (birth place : ℕ) : Type 0 where
  pub n : ℕ
  pub node : n < length nodes
  pub client : (node_at nodes n).birth ≡ birth
  pub kind : kind_at after place ≡ (node_at nodes n).kind
  pub memory : (standing_at after place).memory ≡ first (map sound owned.scores) (node_at nodes n).kind
  pub none : IsNobodys owned birth

-- a client still has its bench
pub record HasBenchYet (rack : Racked) (after : Racked) (owned_after : Owned) (birth before : ℕ) : Type 0 where
  pub place : ℕ
  pub owner : owner_at owned_after place ≡ Some birth
  pub same : (bench_at after place).kept ≡ (bench_at rack before).kept

-- a client that had a bench, and is none of these nodes', lost its guest to one of them
pub record LostGuest (nodes : List OpenClient) (rack : Racked) (owned : Owned) (birth : ℕ) : Type 0 where
  pub place : ℕ
  pub guest : ℕ
  pub n : ℕ
  pub owner : owner_at owned place ≡ Some birth
  pub kind : kind_at rack place ≡ Guest guest
  pub node : n < length nodes
  pub node_kind : (node_at nodes n).kind ≡ Guest guest
  pub none : (m : ℕ) → m < length nodes → (node_at nodes m).birth ≡ birth → ⊥

-- each owner had this bench, or is new; who had a bench has it, or is of the past with its memory as it was; the past only grows, by those
-- that lost their guests; the benches are of the same kinds and periods, and idle if they were
pub record Moves (sound : Score → Sound) (nodes : List OpenClient) (rack : Racked) (owned : Owned) (after : Racked) (owned_after : Owned) : Type 0 where
  pub from : (place birth : ℕ) → owner_at owned_after place ≡ Some birth → HadBench rack owned after birth place ⊎ (HasNewBench sound) nodes owned after birth place
  pub onward : (place birth : ℕ) → owner_at owned place ≡ Some birth
      → HasBenchYet rack after owned_after birth place ⊎ Contains owned_after.past (record { birth = birth; memory = (standing_at rack place).memory })
  pub past : (kept : Remembered) → Contains owned_after.past kept → Contains owned.past kept ⊎ LostGuest nodes rack owned kept.birth
  pub past_stays : (kept : Remembered) → Contains owned.past kept → Contains owned_after.past kept
  pub kinds : IsPermutation (kinds_of rack) (kinds_of after)
  pub periods : (period : ℕ) → HavePeriod rack period → HavePeriod after period
  pub idle : IsIdle rack → IsIdle after
  pub scores : owned_after.scores ≡ owned.scores
  pub links : after.links ≡ rack.links

-- a bench of nobody is ready for a client of its kind: in its first memory, with its guest out of the pool if it asks one
pub record IsEquipped (sound : Score → Sound) (rack : Racked) (owned : Owned) (after : Racked) (owned_after : Owned) (place : ℕ) : Type 0 where
  pub rack_is : after ≡ with_standing rack place (standing_at after place)
  pub owned_is : owned_after ≡ record owned { pool = owned_after.pool }
  pub kind : kind_at after place ≡ kind_at rack place
  pub period : (standing_at after place).period ≡ (standing_at rack place).period
  pub guest : HasGuest (kind_at after place) (standing_at after place).score
  pub scored : IsScored (standing_at after place) owned.scores
  pub memory : (standing_at after place).memory ≡ first (map sound owned.scores) (kind_at after place)
  pub bare : IsBare (kind_at after place) (standing_at after place).memory
  pub as_many : length owned_after.pool ≡ length owned.pool
  pub pool : (guest : ℕ) (score : Score) → pooled owned_after guest ≡ Some score → pooled owned guest ≡ Some score
  pub still : (guest : ℕ) → IsSome (pooled owned guest) → IsSome (pooled owned_after guest) ⊎ (kind_at rack place ≡ Guest guest)

-- a bench of nobody went to the client of node n; those that have benches have them yet
pub record Gives (sound : Score → Sound) (nodes : List OpenClient) (rack : Racked) (owned : Owned) (after : Racked) (owned_after : Owned) (n place : ℕ) : Type 0 where
  pub seating : IsSeating after owned_after
  pub moves : (Moves sound) nodes rack owned after owned_after
  pub has : HasBench nodes after owned_after n place
  pub seated : (m q : ℕ) → HasBench nodes rack owned m q → HasBench nodes after owned_after m q

-- two places are exchanged: what stood at the first stands at the second, and what stood at no one of the two stands there yet
pub record Brings (sound : Score → Sound) (rack : Racked) (owned : Owned) (after : Racked) (owned_after : Owned) (from to : ℕ) : Type 0 where
  pub seating : IsSeating after owned_after
  pub moves : (nodes : List OpenClient) → (Moves sound) nodes rack owned after owned_after
  pub there : (nodes : List OpenClient) (m : ℕ) → HasBench nodes rack owned m from → HasBench nodes after owned_after m to
  pub others : (nodes : List OpenClient) (m q : ℕ) → q ≢ from → q ≢ to → HasBench nodes rack owned m q → HasBench nodes after owned_after m q

-- a guest is in the pool, and was lent to a client that is none of these nodes'
pub record TakesBack (sound : Score → Sound) (nodes : List OpenClient) (rack : Racked) (owned : Owned) (after : Racked) (owned_after : Owned) (guest : ℕ) : Type 0 where
  pub seating : IsSeating after owned_after
  pub moves : (Moves sound) nodes rack owned after owned_after
  pub pool : IsSome (pooled owned_after guest)
  pub nobody : (birth : ℕ) → IsNobodys owned birth → IsNobodys owned_after birth
  pub seated : (m q : ℕ) → m < length nodes → HasBench nodes rack owned m q → HasBench nodes after owned_after m q
