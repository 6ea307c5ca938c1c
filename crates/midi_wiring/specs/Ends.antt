-- Inside: edges by the ports at their ends. No public clause cites this module.
--     IsPortAt ports id index      the port of an id stands at this index
--     is_midi_of node way port      a MIDI port of a node, of this way
--     from_by, joint_from      what an edge is by its ends
--     given_from nodes port      the MIDI output of a node that a port is
--     widths_by ports client      a client's widths, by its ports
use Rattle.std.specs.Prelude.{◌≡◌, ℕ, ◌<◌, Bool, true, false, ◌&&◌, List, count_by, length, slice_index_or, Option, Some, None}
use Rattle.jack_types.specs.declared.ports.Client.{Client}
use Rattle.jack_types.specs.declared.ports.Mark.{Mark}
use Rattle.jack_types.specs.declared.ports.Node.{Node}
use Rattle.jack_types.specs.declared.ports.Node.TheVariants.{Client as ClientNode}
use Rattle.jack_types.specs.declared.ports.Port.{Port}
use Rattle.jack_types.specs.declared.ports.PortId.{PortId}
use Rattle.jack_types.specs.declared.ports.PortKind.{PortKind}
use Rattle.jack_types.specs.declared.ports.PortKind.TheVariants.{Midi}
use Rattle.jack_types.specs.declared.ports.Way.{Way}
use Rattle.jack_types.specs.declared.ports.Way.TheVariants.{In, Out}
use Rattle.session_model.specs.Ids.{same_id_node, way_of}
use Rattle.client_wiring.specs.Tables.{node_place}
use Rattle.midi_wiring.specs.declared.joints.MidiFrom.{MidiFrom}
use Rattle.midi_wiring.specs.declared.joints.MidiGiven.{MidiGiven}
use Rattle.midi_wiring.specs.declared.joints.MidiJoint.{MidiJoint}
use Rattle.midi_wiring.specs.declared.joints.MidiWidths.{MidiWidths}
use Rattle.midi_wiring.specs.Wirings.{midi_from}

-- the port of an id stands there
pub record IsPortAt (ports : List Port) (id : PortId) (index : ℕ) : Type 0 where
  pub port : Port
  pub within : index < length ports
  pub there : slice_index_or ports index port ≡ port
  pub its_id : port.id.0 ≡ id.0

abbrev pub is_midi_by : Way → PortKind → Way → Bool
is_midi_by In Midi In = true
is_midi_by Out Midi Out = true
is_midi_by _ _ _ = false

abbrev pub is_midi_of : Node → Way → Port → Bool
is_midi_of node way port = same_id_node port.node node && is_midi_by way port.kind (way_of port)

abbrev pub from_by : List Client → Port → Mark → MidiFrom
from_by nodes source mark = midi_from source.birth mark (node_place nodes source.node)

-- an input's place is the number of its node's inputs before it
abbrev pub joint_with : MidiFrom → ℕ → PortKind → Option ℕ → Option MidiJoint
joint_with from input Midi (Some n) = Some (record { node = n; input = input; from = from })
joint_with from input _ _ = None

abbrev pub joint_from : List Client → List Port → Port → Port → Mark → Option MidiJoint
joint_from nodes before source destination mark = joint_with (from_by nodes source mark) (count_by (is_midi_of destination.node In) before) destination.kind (node_place nodes destination.node)

abbrev pub given_with : ℕ → PortKind → Way → Option ℕ → Option MidiGiven
given_with birth Midi Out (Some n) = Some (record { birth = birth; node = n })
given_with birth _ _ _ = None

abbrev pub given_from : List Client → Port → Option MidiGiven
given_from nodes port = given_with port.birth port.kind (way_of port) (node_place nodes port.node)

abbrev pub widths_by : List Port → Client → MidiWidths
widths_by ports client = record { inputs = count_by (is_midi_of (ClientNode client.id) In) ports; outputs = count_by (is_midi_of (ClientNode client.id) Out) ports }
