-- The events' lines, log by log.
--     log_in command, events_in course changes      the log that a command opens, and the events' lines of a course
--     events_of client log      those of one log
--     is_event row client logged      whether a line tells this event
--     GoesBehind rows place events next      the lines from a place on are those of these events, up to the next place
--     DepartsAt rows place events at      the first of them that is not
use Rattle.std.specs.Prelude.{◌≡◌, ◌≢◌, ℕ, ◌+◌, ◌≤◌, Bool, ◌&&◌, ◌==◌, List, ◌++◌, length, map, take, flat_map, slice_get, Option, Some, None}
use Rattle.std.specs.Str.{bytes_eq}
use Rattle.jack_types.specs.declared.commands.Change.{Change}
use Rattle.jack_types.specs.declared.commands.Command.{Command}
use Rattle.jack_types.specs.declared.commands.Command.TheVariants.{Open}
use Rattle.jack_types.specs.declared.events.Logged.{Logged}
use Rattle.jack_types.specs.declared.kinds.Kind.TheVariants.{Midilog}
use Rattle.session_model.specs.Courses.{Course}
use Rattle.session_model.specs.Reports.{PrintedEvent, events_by}
use Rattle.report_reader.specs.declared.rows.EventLine.{EventLine}

abbrev pub log_in : Command → Option (List ℕ)
log_in (Open client Midilog) = Some client
log_in _ = None

abbrev pub events_in : Course → List Change → List PrintedEvent
events_in course changes = flat_map (λ (change : Change). events_by course change.number change.command) changes

abbrev pub events_of : List ℕ → List Logged → List PrintedEvent
events_of client log = map (λ logged. record { client = client; logged = logged }) log

abbrev pub is_event : EventLine → List ℕ → Logged → Bool
is_event row client logged =
    bytes_eq row.client client && ((row.cycle == logged.cycle) && ((row.offset == logged.event.offset) && ((row.event.size == logged.event.size) && bytes_eq row.event.bytes.0 logged.event.bytes.0)))

pub record GoesBehind (rows : List PrintedEvent) (place : ℕ) (events : List PrintedEvent) (next : ℕ) : Type 0 where
  pub low : next ≤ length rows
  pub same : take next rows ≡ take place rows ++ events

pub record DepartsAt (rows : List PrintedEvent) (place : ℕ) (events : List PrintedEvent) (at : ℕ) : Type 0 where
  pub i : ℕ
  pub event : PrintedEvent
  pub there : slice_get events i ≡ Some event
  pub at_is : at ≡ place + i
  pub low : at ≤ length rows
  pub same : take at rows ≡ take place rows ++ take i events
  pub differs : slice_get rows at ≢ Some event
