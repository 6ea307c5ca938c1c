-- How the clients of a plan are wired.
--     Wired      of each node its widths, the connections into audio inputs, and those that links carry
--     wired state nodes links      the wiring of a plan, by names
--     SetsTasks plan wired      what a wiring says of the work of each client
--     SetsPlayback plan wired      what a wiring says of the playback
use Rattle.std.specs.Prelude.{◌≡◌, ℕ, ◌<◌, Bool, ◌&&◌, ◌==◌, List, count_by, filter, filter_map, length, map, take, ℤ, Option, Some, None, slice_index_or}
use Rattle.std.specs.List.{position_or_len}
use Rattle.std.specs.Option.{option_map, option_map_or}
use Rattle.std.specs.Str.{bytes_eq}
use Rattle.jack_types.specs.Names.{client_part}
use Rattle.jack_types.specs.declared.ports.Link.{Link}
use Rattle.jack_types.specs.declared.ports.Mark.{Mark}
use Rattle.jack_types.specs.declared.ports.Mark.TheVariants.{Direct, Feedback}
use Rattle.session_model.specs.Activation.{link_at, outgoing}
use Rattle.session_model.specs.Benches.{Bench, Part, Known, Handed as HandedPart, Route, audio_part_of, edge_place, edges_between, link_place, node_at, place_in, port_place, outputs_of, route_of}
use Rattle.session_model.specs.Cycles.{Settled, audio_inputs, audio_outputs, edges_into, midi_outputs}
use Rattle.session_model.specs.Samples.{below, silence}
use Rattle.session_model.specs.State.{Connection, OpenClient, OpenPort, State, capture_port, playback_port, port_named, system_name}
use Rattle.cycle_plan.specs.port_registry.specs.Registered.{open_clients}
use Rattle.cycle_plan.specs.Layouts.{same_link}
use Rattle.cycle_plan.specs.Plans.{Planned, link_in, state_of_plan}
use Rattle.client_wiring.specs.declared.joints.Carried.{Carried}
use Rattle.client_wiring.specs.declared.joints.Given.{Given}
use Rattle.client_wiring.specs.declared.joints.Heard.{Heard}
use Rattle.client_wiring.specs.declared.joints.Joint.{Joint}
use Rattle.client_wiring.specs.declared.joints.Origin.{Origin}
use Rattle.client_wiring.specs.declared.joints.Origin.TheVariants.{Handed, Kept, Captured}
use Rattle.client_wiring.specs.declared.joints.Sound.{Sound}
use Rattle.client_wiring.specs.declared.joints.Sound.TheVariants.{Played, Captured as CapturedSound}
use Rattle.client_wiring.specs.declared.joints.Output.{Output}
use Rattle.client_wiring.specs.declared.joints.Output.TheVariants.{Audio as AudioOutput, Midi as MidiOutput}
use Rattle.client_wiring.specs.declared.joints.Widths.{Widths}

-- of each node how many audio inputs and outputs its client has; connections in the order of making; the audio outputs of nodes in order of birth
pub record Wired : Type 0 where
  pub widths : List Widths
  pub joints : List Joint
  pub carried : List Carried
  pub given : List Given
  pub heard : List Heard

abbrev pub widths_of : State → OpenClient → Widths
widths_of state client = record { inputs = length (audio_inputs state client.name); outputs = length (audio_outputs state client.name) }

-- the place of a port among ports that have it
abbrev pub port_index : List OpenPort → List ℕ → ℕ
port_index ports name = position_or_len (λ (port : OpenPort). bytes_eq port.name name) ports

-- which audio output of its client a port is, and if none, which MIDI output
abbrev pub output_of : State → List ℕ → Output
output_of state port = option_map_or AudioOutput (port_place (audio_outputs state (client_part port)) port) (MidiOutput (port_index (midi_outputs state (client_part port)) port))

-- the place of a link among the plan's, and how many links before it go out from its node
abbrev pub link_index : List Link → Link → ℕ
link_index links link = position_or_len (same_link link) links

abbrev pub is_from : ℕ → Link → Bool
is_from n link = link.from == n

abbrev pub place_out_of : List Link → Link → ℕ
place_out_of links link = count_by (is_from link.from) (take (link_index links link) links)

-- a connection that a link carries: a direct edge between two nodes
abbrev pub carried_on : List Link → Output → Link → Carried
carried_on links output link = record { node = link.from; place = place_out_of links link; link = link_index links link; output = output }

abbrev pub carried_by : State → List OpenClient → List Link → Connection → Option Carried
carried_by state nodes links edge = option_map (carried_on links (output_of state edge.source)) (link_in nodes edge)

-- the place of an edge's source among its client's audio outputs; those of `system` are the channels of the capture
abbrev pub source_place : State → Connection → ℕ
source_place state edge = port_index (audio_outputs state (client_part edge.source)) edge.source

-- the birth of an edge's source
abbrev pub source_birth : State → Connection → ℕ
source_birth state edge = option_map_or (λ (port : OpenPort). port.birth) (port_named state edge.source) 0

-- what a direct edge from a node brings is handed over a link, what a feedback edge brings was kept, and what comes from no node is captured
abbrev pub origin_from : State → List OpenClient → List Link → ℕ → Connection → Mark → Option ℕ → Origin
origin_from state nodes links n edge Direct (Some source) =
    Handed (link_place links source n) (edge_place edge (edges_between state (node_at nodes source).name (node_at nodes n).name))
origin_from state nodes links n edge Feedback (Some source) = Kept source (source_place state edge) (source_birth state edge)
origin_from state nodes links n edge mark None = Captured (source_place state edge)

abbrev pub origin_of : State → List OpenClient → List Link → ℕ → Connection → Origin
origin_of state nodes links n edge = origin_from state nodes links n edge edge.mark (place_in nodes (client_part edge.source))

-- an edge into an audio input of a node
abbrev pub joint_into : State → List OpenClient → List Link → Connection → Option ℕ → Option ℕ → Option Joint
joint_into state nodes links edge (Some n) (Some input) = Some (record { node = n; input = input; origin = origin_of state nodes links n edge })
joint_into state nodes links edge _ _ = None

abbrev pub joint_of : State → List OpenClient → List Link → Connection → Option Joint
joint_of state nodes links edge = joint_into state nodes links edge
    (place_in nodes (client_part edge.destination))
    (port_place (audio_inputs state (client_part edge.destination)) edge.destination)

-- a port that is an audio output of a node's client
abbrev pub given_by : ℕ → Option ℕ → Option ℕ → Option Given
given_by birth (Some n) (Some output) = Some (record { birth = birth; node = n; output = output })
given_by birth _ _ = None

abbrev pub given_of : State → List OpenClient → OpenPort → Option Given
given_of state nodes port = given_by port.birth (place_in nodes (client_part port.name)) (port_place (audio_outputs state (client_part port.name)) port.name)

-- what a node's client plays, and what comes from no node is captured
abbrev pub sound_by : ℕ → Option ℕ → Sound
sound_by place (Some n) = Played n place
sound_by place None = CapturedSound place

abbrev pub sound_of : State → List OpenClient → Connection → Sound
sound_of state nodes edge = sound_by (source_place state edge) (place_in nodes (client_part edge.source))

-- an edge into an audio input of `system`, which is a playback port
abbrev pub heard_on : Sound → ℕ → Heard
heard_on sound channel = record { channel = channel; sound = sound }

abbrev pub heard_of : State → List OpenClient → Connection → Option Heard
heard_of state nodes edge = option_map (heard_on (sound_of state nodes edge)) (port_place (audio_inputs state system_name) edge.destination)

abbrev pub wired : State → List OpenClient → List Link → Wired
wired state nodes links = record {
  widths = map (widths_of state) nodes;
  joints = filter_map (joint_of state nodes links) state.edges;
  carried = filter_map (carried_by state nodes links) state.edges;
  given = filter_map (given_of state nodes) state.ports;
  heard = filter_map (heard_of state nodes) state.edges;
}

abbrev pub wired_of : Planned → Wired
wired_of plan = wired (state_of_plan plan) (open_clients plan.nodes) plan.links

-- the connections into an input of a node, and those that its outgoing link of this place carries
abbrev pub joints_at : Wired → ℕ → ℕ → List Joint
joints_at wiring n input = filter (λ (joint : Joint). joint.node == n && joint.input == input) wiring.joints

abbrev pub carried_at : Wired → ℕ → ℕ → List Carried
carried_at wiring n place = filter (λ (carried : Carried). carried.node == n && carried.place == place) wiring.carried

-- the name of the audio output of this place of the client at a node
abbrev pub output_name : State → List OpenClient → ℕ → ℕ → List ℕ
output_name state nodes n output = (slice_index_or (audio_outputs state (node_at nodes n).name) output (capture_port 0)).name

-- what an origin brings in a cycle
abbrev pub part_from : Settled → List OpenClient → Origin → Part (List ℤ)
part_from at nodes (Handed link connection) = HandedPart link connection
part_from at nodes (Kept n output birth) = Known (at.before.audio (output_name at.graph nodes n output))
part_from at nodes (Captured channel) = Known (at.capture channel)

abbrev pub route_by : Output → Route
route_by (AudioOutput j) = record { audio = Some j; midi = None }
route_by (MidiOutput j) = record { audio = None; midi = Some j }

-- what a wiring says of the work of each client, in a cycle of the plan's graph
pub record SetsTasks (plan : Planned) (wiring : Wired) : Type 0 where
  pub inputs : (n : ℕ) → n < length plan.nodes → (slice_index_or wiring.widths n (record { inputs = 0; outputs = 0 })).inputs ≡ length (audio_inputs (state_of_plan plan) (node_at (open_clients plan.nodes) n).name)
  pub outputs : (n : ℕ) → n < length plan.nodes → (slice_index_or wiring.widths n (record { inputs = 0; outputs = 0 })).outputs ≡ length (audio_outputs (state_of_plan plan) (node_at (open_clients plan.nodes) n).name)
  pub parts : (n : ℕ) (at : Settled) → n < length plan.nodes → at.graph ≡ state_of_plan plan
      → map (λ (port : OpenPort). map (audio_part_of at (open_clients plan.nodes) plan.links n) (edges_into at.graph port.name)) (audio_inputs at.graph (node_at (open_clients plan.nodes) n).name)
      ≡ map (λ i. map (λ (joint : Joint). part_from at (open_clients plan.nodes) joint.origin) (joints_at wiring n i)) (below (length (audio_inputs at.graph (node_at (open_clients plan.nodes) n).name)))
  pub routes : (n : ℕ) → n < length plan.nodes
      → map (λ l. map (λ (edge : Connection). route_of (state_of_plan plan) (node_at (open_clients plan.nodes) n).name edge.source) (edges_between (state_of_plan plan) (node_at (open_clients plan.nodes) n).name (node_at (open_clients plan.nodes) (link_at plan.links l).to).name)) (outgoing plan.links n)
      ≡ map (λ k. map (λ (carried : Carried). route_by carried.output) (carried_at wiring n k)) (below (length (outgoing plan.links n)))

-- what a sound is in a cycle, read from the benches
abbrev pub sound_from : Settled → (ℕ → Bench) → Sound → List ℤ
sound_from at benches (Played n j) = slice_index_or (benches n).audio j (silence at.frames)
sound_from at benches (CapturedSound c) = at.capture c

-- the connections into the playback port of a channel
abbrev pub heard_at : Wired → ℕ → List Heard
heard_at wiring c = filter (λ (heard : Heard). heard.channel == c) wiring.heard

-- what a wiring says of the playback: in a cycle of the plan's graph each channel gets what its connections' sounds are
abbrev pub SetsPlayback : Planned → Wired → Type 0
SetsPlayback plan wiring = (at : Settled) (benches : ℕ → Bench) (c : ℕ) → at.graph ≡ state_of_plan plan → c < plan.base.playback
    → map (λ (edge : Connection). (outputs_of at (open_clients plan.nodes) benches).audio edge.source) (edges_into at.graph (playback_port c).name)
    ≡ map (λ (heard : Heard). sound_from at benches heard.sound) (heard_at wiring c)
