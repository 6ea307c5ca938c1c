-- How a stage goes on to a cycle of a plan.
--     Casts old last plan moment period cast      each client of the plan has its bench, as it was, and is set for the cycle
--     GoesOnIn old last moment period new      the same, for a later cycle of the last plan
--     ArePlaces old cast period places      at which places kept outputs stood in the cycle before, if that had the period
--     Fills cast plan moment period channels places filled      what is known before the clients play is in their wires
--     Performs filled plan crew played      the crew played them
use Rattle.std.specs.Prelude.{◌≡◌, ◌≢◌, ℕ, ◌<◌, ◌≤◌, List, [], length, map, slice_index_or, ℤ, Option, None, Some}
use Rattle.jack_types.specs.declared.moments.Moment.{Moment}
use Rattle.session_model.specs.Activation.{sequential}
use Rattle.session_model.specs.Benches.{node_at}
use Rattle.session_model.specs.Kinds.{first}
use Rattle.session_model.specs.Samples.{silence}
use Rattle.session_model.specs.Kinds.{Sound}
use Rattle.client_kinds.specs.Scores.{Score}
use Rattle.port_registry.specs.Registered.{open_clients}
use Rattle.cycle_plan.specs.Plans.{Planned}
use Rattle.client_benches.specs.Seen.{kept_after, kept_gives}
use Rattle.client_wiring.specs.Wirings.{wired_of}
use Rattle.bench_rack.specs.Racks.{Racked, bench_at, moved}
use Rattle.client_tasks.specs.Fillings.{AreJoints, known_at, last_place}
use Rattle.client_tasks.specs.Tasks.{AreSet, HasRooms}
use Rattle.client_seats.specs.Owners.{owner_at}
use Rattle.client_seats.specs.Seatings.{HasBench, HavePeriod, IsNobodys, IsSeating, memory_of, standing_at}
use Rattle.stage_laws.specs.Stages.{Staged}

pub record Casts (sounding : Score → Sound) (old : Staged) (last plan : Planned) (moment : Moment) (period : ℕ) (new : Staged) : Type 0 where
  pub wiring : new.wiring ≡ wired_of plan
  pub seating : IsSeating new.racked new.owned
  pub periods : HavePeriod new.racked new.room
  pub unfed : (p : ℕ) → (standing_at new.racked p).memory.fed ≡ []
  pub idle : (p : ℕ) → length plan.nodes ≤ p → (bench_at new.racked p).kept.turn ≡ None
  pub has : (n : ℕ) → n < length plan.nodes → HasBench (open_clients plan.nodes) new.racked new.owned n n
  pub sources : ℕ → List ℤ
  pub set : AreSet new.wiring plan.links moment period sources (length plan.nodes) new.racked
  pub rooms : HasRooms plan.links new.racked
  pub joints : AreJoints (length plan.nodes) new.wiring.joints
  pub standings : (n p : ℕ) → n < length plan.nodes → owner_at old.owned p ≡ Some (node_at (open_clients plan.nodes) n).birth → standing_at new.racked n ≡ standing_at old.racked p
  pub audio : (n p : ℕ) → n < length plan.nodes → owner_at old.owned p ≡ Some (node_at (open_clients plan.nodes) n).birth → (bench_at new.racked n).kept.audio ≡ (bench_at old.racked p).kept.audio
  pub fresh : (n : ℕ) → n < length plan.nodes → IsNobodys old.owned (node_at (open_clients plan.nodes) n).birth → (standing_at new.racked n).memory ≡ first (map sounding old.owned.scores) (node_at (open_clients plan.nodes) n).kind
  pub others : (birth : ℕ) → ((n : ℕ) → n < length plan.nodes → (node_at (open_clients plan.nodes) n).birth ≡ birth → ⊥) → memory_of new.racked new.owned birth ≡ memory_of old.racked old.owned birth
  pub scores : new.owned.scores ≡ old.owned.scores
  pub last_is : new.last ≡ map (last_place (wired_of last).given) new.wiring.joints
  pub crew_stays : new.crew ≡ old.crew
  pub room_stays : new.room ≡ old.room
  pub period_stays : new.period ≡ old.period
  pub lengths : length new.racked.benches ≡ length old.racked.benches
  pub links_stay : new.racked.links ≡ old.racked.links

-- those of the last plan's outputs, or none where the period is another
pub record ArePlaces (old cast : Staged) (period : ℕ) (places : List (Option ℕ)) : Type 0 where
  pub same : old.period ≡ period → places ≡ cast.last
  pub other : old.period ≢ period → (i : ℕ) → slice_index_or places i None ≡ None

-- captured channels, kept outputs at these places, or silence; past the last node all is idle
pub record Fills (cast : Staged) (plan : Planned) (moment : Moment) (period : ℕ) (channels : List (List ℤ)) (places : List (Option ℕ)) (filled : Racked) : Type 0 where
  pub set : AreSet (wired_of plan) plan.links moment period (known_at cast.racked channels (silence period) places (wired_of plan).joints) (length plan.nodes) filled
  pub standings : (p : ℕ) → standing_at filled p ≡ standing_at cast.racked p
  pub idle : (p : ℕ) → length plan.nodes ≤ p → (bench_at filled p).kept.turn ≡ None
  pub lengths : length filled.benches ≡ length cast.racked.benches

-- a crew of so many nodes plays the first benches, and leaves all others
pub record Performs (sounding : Score → Sound) (filled : Racked) (plan : Planned) (crew : ℕ) (played : Racked) : Type 0 where
  pub few : length plan.nodes ≤ crew
  pub each : (n : ℕ) → n < crew → (bench_at played n).kept ≡ sequential (kept_after sounding) (kept_gives sounding) plan.links (λ n. (bench_at filled n).kept) n
  pub others : (n : ℕ) → crew ≤ n → bench_at played n ≡ bench_at filled n
  pub lengths : length played.benches ≡ length filled.benches

-- the benches that played last are told the moment and the period of the next cycle; else only where kept outputs stand changes, and whose nodes they are
pub record GoesOnIn (old : Staged) (last : Planned) (moment : Moment) (period : ℕ) (new : Staged) : Type 0 where
  pub told : (n : ℕ) → n < length last.nodes → bench_at new.racked n ≡ moved moment period (bench_at old.racked n)
  pub others : (n : ℕ) → length last.nodes ≤ n → bench_at new.racked n ≡ bench_at old.racked n
  pub lengths : length new.racked.benches ≡ length old.racked.benches
  pub places : new.last ≡ map (last_place old.wiring.given) old.wiring.joints
  pub same : new ≡ record old { racked = record old.racked { benches = new.racked.benches }; last = new.last; nodes = new.nodes }
