-- What is heard of MIDI in a cycle, read from benches.
--     Sounded, sounded sounds      by node its bench, by bench its events, and the MIDI outputs
--     brings sounds from      what a connection brings
--     heard_on sounds joints n input      what an input of a node hears
--     PlaysOn list moment period input before after given      a client plays on inputs of which this is the merge
--     AreSeated sounds benches      each seat is a bench, of one node
--     HavePlayed lists nodes wiring moment period count before after sounds      the clients of the first nodes played
use Rattle.std.specs.Prelude.{◌≡◌, ℕ, ◌<◌, ◌&&◌, ◌==◌, Contains, List, [], filter, find, length, map, replicate, slice_index_or, Option, Some, None, option_map}
use Rattle.jack_types.specs.declared.events.Event.{Event}
use Rattle.jack_types.specs.declared.kinds.Kind.TheVariants.{Midithru}
use Rattle.jack_types.specs.declared.moments.Moment.{Moment}
use Rattle.jack_types.specs.declared.ports.Client.{Client}
use Rattle.session_model.specs.Events.{merge}
use Rattle.session_model.specs.Kinds.{Memory, midi_play}
use Rattle.session_model.specs.Samples.{below}
use Rattle.midi_player.specs.Standings.{Standing}
use Rattle.midi_wiring.specs.declared.joints.MidiFrom.{MidiFrom}
use Rattle.midi_wiring.specs.declared.joints.MidiFrom.TheVariants.{Played, Kept, Nothing}
use Rattle.midi_wiring.specs.declared.joints.MidiGiven.{MidiGiven}
use Rattle.midi_wiring.specs.declared.joints.MidiJoint.{MidiJoint}
use Rattle.midi_wiring.specs.Hearings.{inputs_at}
use Rattle.driver_words.specs.Hearings.{listed_for}
use Rattle.midi_wiring.specs.Wirings.{MidiWired}
use Rattle.port_registry.specs.Registered.{system_entry}
use Rattle.midi_stage.specs.declared.sounds.Output.{Output}
use Rattle.midi_stage.specs.declared.sounds.Sounds.{Sounds}

-- what a cycle has of MIDI: by node its client's bench, if that is a MIDI client; by bench what it gives, and what it gave in the last cycle; the MIDI outputs, and those of
-- the last cycle, as far as feedback edges have them
pub record Sounded : Type 0 where
  pub seats : List (Option ℕ)
  pub gives : List (List Event)
  pub gave : List (List Event)
  pub outputs : List Output
  pub earlier : List Output

abbrev pub sounded : Sounds → Sounded
sounded sounds = record { seats = sounds.seats.items; gives = sounds.gives.items; gave = sounds.gave.items; outputs = sounds.outputs.items; earlier = sounds.earlier.items }

abbrev pub events_at : List (List Event) → Option ℕ → List Event
events_at events None = []
events_at events (Some bench) = slice_index_or events bench []

-- a MIDI output of a client that has a bench
abbrev pub output_on : MidiGiven → ℕ → Output
output_on given bench = record { birth = given.birth; bench = bench }

abbrev pub output_from : List (Option ℕ) → MidiGiven → Option Output
output_from seats given = option_map (output_on given) (slice_index_or seats given.node None)

abbrev pub bench_born : List Output → ℕ → Option ℕ
bench_born outputs birth = option_map (λ (output : Output). output.bench) (find (λ (output : Output). output.birth == birth) outputs)

abbrev pub brings : Sounded → MidiFrom → List Event
brings sounds (Played n) = events_at sounds.gives (slice_index_or sounds.seats n None)
brings sounds (Kept birth) = events_at sounds.gave (bench_born sounds.earlier birth)
brings sounds Nothing = []

-- the merge of its connections, in the order of making
abbrev pub heard_on : Sounded → List MidiJoint → ℕ → ℕ → List Event
heard_on sounds joints n input = merge (map (λ (joint : MidiJoint). brings sounds joint.from) (filter (λ (joint : MidiJoint). joint.node == n && joint.input == input) joints))

abbrev pub no_standing : Standing
no_standing = record { kind = Midithru; log = [] }

-- on each output the same events, and its log, whatever else it remembers
abbrev pub PlaysOn : List (ℕ × Event) → Moment → ℕ → List Event → Standing → Standing → List Event → Type 0
PlaysOn list moment period input before after given =
    (outputs : ℕ) (memory : Memory) (inputs : List (List Event)) → memory.log ≡ before.log → merge inputs ≡ input
    → midi_play list before.kind memory outputs moment period inputs ≡ record { outputs = replicate outputs given; memory = record memory { log = after.log } }

-- what all inputs of a node hear
abbrev pub all_heard : Sounded → MidiWired → ℕ → List (List Event)
all_heard sounds wiring n = map (heard_on sounds wiring.joints n) (below (inputs_at wiring n))

abbrev pub seat_at : Sounded → ℕ → Option ℕ
seat_at sounds n = slice_index_or sounds.seats n None

-- each seat is one of so many benches, and of one node
pub record AreSeated (sounds : Sounded) (benches : ℕ) : Type 0 where
  pub benches_there : (n b : ℕ) → seat_at sounds n ≡ Some b → b < benches
  pub gives_there : (n b : ℕ) → seat_at sounds n ≡ Some b → b < length sounds.gives
  pub apart : (n m b : ℕ) → seat_at sounds n ≡ Some b → seat_at sounds m ≡ Some b → n ≡ m

-- events come from lower nodes
abbrev pub AreLower : List MidiJoint → Type 0
AreLower joints = (joint : MidiJoint) (m : ℕ) → Contains joints joint → joint.from ≡ Played m → m < joint.node

-- the clients of the first so many nodes played on what they hear of these sounds
abbrev pub HavePlayed : List (List (ℕ × Event)) → List Client → MidiWired → Moment → ℕ → ℕ → List Standing → List Standing → Sounded → Type 0
HavePlayed lists nodes wiring moment period count before after sounds = (n b : ℕ) → n < count → seat_at sounds n ≡ Some b
    → PlaysOn (listed_for lists (slice_index_or nodes n system_entry).kind) moment period (merge (all_heard sounds wiring n)) (slice_index_or before b no_standing) (slice_index_or after b no_standing) (slice_index_or sounds.gives b [])
