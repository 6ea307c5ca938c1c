-- What the clients of a plan hear of MIDI, and what they play.
--     heard_by wiring heard n      the events of each MIDI input of a node
--     AreCarried plan heard      by its birth each MIDI output of a node carries what its client played
--     HearsPlan old plan moment period new      the clients of a plan played a cycle
use Rattle.std.specs.Prelude.{◌≡◌, ℕ, ◌<◌, ◌≤◌, ◌==◌, Contains, List, [], find, length, map, replicate, slice_index_or, if◌then◌else◌}
use Rattle.std.specs.Option.{option_map_or}
use Rattle.jack_types.specs.declared.events.Event.{Event}
use Rattle.jack_types.specs.declared.events.Logged.{Logged}
use Rattle.jack_types.specs.declared.kinds.Kind.{Kind}
use Rattle.jack_types.specs.declared.kinds.Kind.TheVariants.{Midiplay}
use Rattle.jack_types.specs.declared.moments.Moment.{Moment}
use Rattle.session_model.specs.Benches.{node_at}
use Rattle.session_model.specs.Events.{merge}
use Rattle.session_model.specs.Kinds.{Memory, midi_play}
use Rattle.session_model.specs.Samples.{below}
use Rattle.session_model.specs.State.{OpenClient}
use Rattle.driver_words.specs.Hearings.{Carried, Heard, carried_at, listed_for, log_at, played_at}
use Rattle.port_registry.specs.Registered.{open_clients}
use Rattle.client_wiring.specs.cycle_plan.specs.Plans.{Planned}
use Rattle.midi_wiring.specs.declared.joints.MidiFrom.{MidiFrom}
use Rattle.midi_wiring.specs.declared.joints.MidiFrom.TheVariants.{Played, Kept, Nothing}
use Rattle.midi_wiring.specs.declared.joints.MidiGiven.{MidiGiven}
use Rattle.midi_wiring.specs.declared.joints.MidiJoint.{MidiJoint}
use Rattle.midi_wiring.specs.Wirings.{MidiWired, midi_joints_at, midi_wired_of}

-- what a connection brings
abbrev pub brought : Heard → MidiFrom → List Event
brought heard (Played n) = played_at heard n
brought heard (Kept birth) = carried_at heard.before birth
brought heard Nothing = []

abbrev pub inputs_at : MidiWired → ℕ → ℕ
inputs_at wiring n = (slice_index_or wiring.widths n (record { inputs = 0; outputs = 0 })).inputs

-- the merge at an input, of its connections in the order of making
abbrev pub heard_at : MidiWired → Heard → ℕ → ℕ → List Event
heard_at wiring heard n input = merge (map (λ (joint : MidiJoint). brought heard joint.from) (midi_joints_at wiring n input))

abbrev pub heard_by : MidiWired → Heard → ℕ → List (List Event)
heard_by wiring heard n = map (heard_at wiring heard n) (below (inputs_at wiring n))

-- by its birth each MIDI output of a node carries what its client played; no other birth carries an event
pub record AreCarried (plan : Planned) (heard : Heard) : Type 0 where
  pub given : (given : MidiGiven) → Contains (midi_wired_of plan).given given → carried_at heard.carried given.birth ≡ played_at heard given.node
  pub others : (birth : ℕ) → ((given : MidiGiven) → Contains (midi_wired_of plan).given given → given.birth ≡ birth → ⊥) → carried_at heard.carried birth ≡ []

-- a client played on what its wiring brought: on each MIDI output the same events, and its log, whatever else it remembers
abbrev pub PlaysHeard : Heard → Planned → Moment → ℕ → Heard → ℕ → OpenClient → Type 0
PlaysHeard old plan moment period new n client =
    (outputs : ℕ) (memory : Memory) → memory.log ≡ log_at old client.birth
    → midi_play (listed_for old.lists client.kind) client.kind memory outputs moment period (heard_by (midi_wired_of plan) new n)
    ≡ record { outputs = replicate outputs (played_at new n); memory = record memory { log = log_at new client.birth } }

-- feedback edges had what outputs carried in the last cycle, where that had the same period; each client of the plan played; the logs of all others stay
pub record HearsPlan (old : Heard) (plan : Planned) (moment : Moment) (period : ℕ) (new : Heard) : Type 0 where
  pub lists : new.lists ≡ old.lists
  pub period_is : new.period ≡ period
  pub before : new.before ≡ (if old.period == period then old.carried else [])
  pub plays : (n : ℕ) → n < length plan.nodes → PlaysHeard old plan moment period new n (node_at (open_clients plan.nodes) n)
  pub past : (n : ℕ) → length plan.nodes ≤ n → played_at new n ≡ []
  pub carried : AreCarried plan new
  pub others : (birth : ℕ) → ((n : ℕ) → n < length plan.nodes → (node_at (open_clients plan.nodes) n).birth ≡ birth → ⊥) → log_at new birth ≡ log_at old birth
