-- What the clients of a plan play in a cycle: audio on a stage, and events beside it.
--     with_log log memory      a memory with a log
--     bench_on sounding plan heard staged n      the bench of a node of a plan as the definitions see it
--     IsSettledOn sounding old last plan moment period channels logs now disks at      what is settled before the clients play
--     PlaysPlan sounding course old plan at now new      the benches were ready for that, and played it
use Rattle.std.specs.Prelude.{◌≡◌, ℕ, ◌<◌, List, [], length, ℤ, None, Some, slice_index_or, unwrap_or, map}
use Rattle.std.specs.Option.{option_map}
use Rattle.jack_types.specs.declared.events.Logged.{Logged}
use Rattle.jack_types.specs.declared.moments.Moment.{Moment}
use Rattle.session_model.specs.Activation.{sequential}
use Rattle.session_model.specs.Benches.{Bench, IsReady, bench_after, bench_gives, node_at, outputs_of}
use Rattle.session_model.specs.Courses.{Course}
use Rattle.session_model.specs.Cycles.{Settled, player_born}
use Rattle.session_model.specs.Driving.{kept_from}
use Rattle.session_model.specs.Kinds.{Memory, Sound, first}
use Rattle.client_kinds.specs.Scores.{Score}
use Rattle.port_registry.specs.Registered.{open_clients}
use Rattle.event_laws.specs.cycle_plan.specs.Plans.{Planned, state_of_plan}
use Rattle.driver_words.specs.Feeding.{Fed, fed_at}
use Rattle.driver_words.specs.Hearings.{Heard, log_at}
use Rattle.driver_laws.specs.Playing.{with_fed}
use Rattle.client_seats.specs.Seatings.{memory_of}
use Rattle.event_laws.specs.Crews.{with_events}
use Rattle.event_laws.specs.Machine.{BringsEvents}
pub use Rattle.stage_laws.specs.Performances.{PerformsPlan}
pub use Rattle.stage_laws.specs.Stages.{Staged, bench_of}
pub use Rattle.stage_laws.specs.Standing.{OnStage, StandsOn}

abbrev pub with_log : List Logged → Memory → Memory
with_log log memory = record memory { log = log }

-- with the events that were heard put on it
abbrev pub bench_on : (sounding : Score → Sound) → Planned → Heard → Staged → ℕ → Bench
bench_on sounding plan heard staged n = with_events plan heard n (bench_of sounding staged n)

-- the plan's graph, the moment and the period; captured channels; what feedback edges give of the last cycle's outputs, and what they brought of events; each client's own
-- memory, or the first of its kind, with its log, and for a disk's player with its block
pub record IsSettledOn (sounding : Score → Sound) (old : Staged) (last plan : Planned) (moment : Moment) (period : ℕ) (channels : List (List ℤ)) (logs now : Heard) (disks : Fed) (at : Settled) : Type 0 where
  pub graph : at.graph ≡ state_of_plan plan
  pub moment_is : at.moment ≡ moment
  pub frames : at.frames ≡ period
  pub capture : (channel : ℕ) → channel < length channels → at.capture channel ≡ slice_index_or channels channel []
  pub at_last : Settled
  pub graph_last : at_last.graph ≡ state_of_plan last
  pub frames_last : at_last.frames ≡ old.period
  pub before : (port : List ℕ) → at.before.audio port ≡ (kept_from old.period (state_of_plan last) (outputs_of at_last (open_clients old.nodes) (bench_of sounding old)) (state_of_plan plan) period).audio port
  pub events : BringsEvents plan at now
  pub memory : (n : ℕ) → n < length plan.nodes
      → at.memory (node_at (open_clients plan.nodes) n)
      ≡ with_fed (fed_at disks) (node_at (open_clients plan.nodes) n).kind (with_log (log_at logs (node_at (open_clients plan.nodes) n).birth)
      (unwrap_or (memory_of old.racked old.owned (node_at (open_clients plan.nodes) n).birth) (first (map sounding old.owned.scores) (node_at (open_clients plan.nodes) n).kind)))

-- whoever played remembers what the definitions say, with its log; the memories of all others stay
pub record PlaysPlan (sounding : Score → Sound) (course : Course) (old : Staged) (plan : Planned) (at : Settled) (now : Heard) (new : Staged) : Type 0 where
  pub before : ℕ → Bench
  pub ready : IsReady course at (open_clients plan.nodes) plan.links before
  pub played : (n : ℕ) → n < length plan.nodes → bench_on sounding plan now new n ≡ sequential bench_after bench_gives plan.links before n
  pub remembered : (n : ℕ) → n < length plan.nodes
      → option_map (with_log (log_at now (node_at (open_clients plan.nodes) n).birth)) (memory_of new.racked new.owned (node_at (open_clients plan.nodes) n).birth) ≡ Some (bench_on sounding plan now new n).memory
  pub others : (birth : ℕ) → player_born (state_of_plan plan) birth ≡ None → memory_of new.racked new.owned birth ≡ memory_of old.racked old.owned birth
