-- How the MIDI ports of a plan's clients are wired.
--     MidiWired      of each node its widths, the connections into MIDI inputs, and the MIDI outputs
--     midi_wired state nodes, midi_wired_of plan      the wiring of a plan, by names
--     midi_joints_at wiring n input      the connections into an input of a node
use Rattle.std.specs.Prelude.{ℕ, not, ◌&&◌, ◌==◌, List, filter, filter_map, length, map, Option, Some, None, if◌then◌else◌}
use Rattle.std.specs.Option.{option_map}
use Rattle.jack_types.specs.Names.{client_part}
use Rattle.jack_types.specs.declared.ports.Mark.{Mark}
use Rattle.jack_types.specs.declared.ports.Mark.TheVariants.{Direct, Feedback}
use Rattle.session_model.specs.Benches.{place_in, port_place}
use Rattle.session_model.specs.Commands.{is_audio, is_input}
use Rattle.session_model.specs.Cycles.{midi_inputs, midi_outputs}
use Rattle.session_model.specs.State.{Connection, OpenClient, OpenPort, State}
use Rattle.port_registry.specs.Registered.{open_clients}
use Rattle.client_wiring.specs.cycle_plan.specs.Plans.{Planned, state_of_plan}
use Rattle.client_wiring.specs.Wirings.{source_birth}
use Rattle.midi_wiring.specs.declared.joints.MidiFrom.{MidiFrom}
use Rattle.midi_wiring.specs.declared.joints.MidiFrom.TheVariants.{Played, Kept, Nothing}
use Rattle.midi_wiring.specs.declared.joints.MidiGiven.{MidiGiven}
use Rattle.midi_wiring.specs.declared.joints.MidiJoint.{MidiJoint}
use Rattle.midi_wiring.specs.declared.joints.MidiWidths.{MidiWidths}

-- of each node how many MIDI inputs and outputs its client has; connections in the order of making; the MIDI outputs of nodes in order of birth
pub record MidiWired : Type 0 where
  pub widths : List MidiWidths
  pub joints : List MidiJoint
  pub given : List MidiGiven

abbrev pub midi_widths_of : State → OpenClient → MidiWidths
midi_widths_of state client = record { inputs = length (midi_inputs state client.name); outputs = length (midi_outputs state client.name) }

-- what a direct edge from a node brings is played, what a feedback edge brings was kept, by the birth of its source; what comes from no node is nothing
abbrev pub midi_from : ℕ → Mark → Option ℕ → MidiFrom
midi_from birth Direct (Some node) = Played node
midi_from birth Feedback (Some node) = Kept birth
midi_from birth mark None = Nothing

abbrev pub midi_from_of : State → List OpenClient → Connection → MidiFrom
midi_from_of state nodes edge = midi_from (source_birth state edge) edge.mark (place_in nodes (client_part edge.source))

-- an edge into a MIDI input of a node
abbrev pub midi_joint_into : MidiFrom → Option ℕ → Option ℕ → Option MidiJoint
midi_joint_into from (Some n) (Some input) = Some (record { node = n; input = input; from = from })
midi_joint_into from _ _ = None

abbrev pub midi_joint_of : State → List OpenClient → Connection → Option MidiJoint
midi_joint_of state nodes edge = midi_joint_into (midi_from_of state nodes edge)
    (place_in nodes (client_part edge.destination))
    (port_place (midi_inputs state (client_part edge.destination)) edge.destination)

-- a port that is a MIDI output of a node's client
abbrev pub midi_given_at : ℕ → ℕ → MidiGiven
midi_given_at birth n = record { birth = birth; node = n }

abbrev pub midi_given_of : List OpenClient → OpenPort → Option MidiGiven
midi_given_of nodes port = if not (is_audio port) && not (is_input port) then option_map (midi_given_at port.birth) (place_in nodes (client_part port.name)) else None

abbrev pub midi_wired : State → List OpenClient → MidiWired
midi_wired state nodes = record {
  widths = map (midi_widths_of state) nodes;
  joints = filter_map (midi_joint_of state nodes) state.edges;
  given = filter_map (midi_given_of nodes) state.ports;
}

abbrev pub midi_wired_of : Planned → MidiWired
midi_wired_of plan = midi_wired (state_of_plan plan) (open_clients plan.nodes)

-- the connections into an input of a node
abbrev pub midi_joints_at : MidiWired → ℕ → ℕ → List MidiJoint
midi_joints_at wiring n input = filter (λ (joint : MidiJoint). joint.node == n && joint.input == input) wiring.joints
