-- Inside: edges by the ends that the tables tell. No public clause cites this module.
--     IsEndAt ports nodes id end      the end at the port of an id
--     carried_from, joint_from, heard_from      what an edge is by its ends
--     given_from nodes places port      the audio output of a node that a port is
use Rattle.std.specs.Prelude.{◌≡◌, ℕ, ◌<◌, List, count_by, length, slice_index_or, Option, Some, None}
use Rattle.std.specs.List.{position_or_len}
use Rattle.std.specs.Option.{option_map}
use Rattle.jack_types.specs.declared.ports.Client.{Client}
use Rattle.jack_types.specs.declared.ports.Link.{Link}
use Rattle.jack_types.specs.declared.ports.Mark.{Mark}
use Rattle.jack_types.specs.declared.ports.Mark.TheVariants.{Direct, Feedback}
use Rattle.jack_types.specs.declared.ports.Port.{Port}
use Rattle.jack_types.specs.declared.ports.PortId.{PortId}
use Rattle.jack_types.specs.declared.ports.PortKind.{PortKind}
use Rattle.jack_types.specs.declared.ports.PortKind.TheVariants.{Audio, Midi}
use Rattle.jack_types.specs.declared.ports.Way.{Way}
use Rattle.jack_types.specs.declared.ports.Way.TheVariants.{Out}
use Rattle.session_model.specs.Benches.{link_place}
use Rattle.session_model.specs.Ids.{way_of}
use Rattle.cycle_plan.specs.Layouts.{same_link}
use Rattle.client_wiring.specs.declared.ends.End.{End}
use Rattle.client_wiring.specs.declared.joints.Carried.{Carried}
use Rattle.client_wiring.specs.declared.joints.Given.{Given}
use Rattle.client_wiring.specs.declared.joints.Heard.{Heard}
use Rattle.client_wiring.specs.declared.joints.Joint.{Joint}
use Rattle.client_wiring.specs.declared.joints.Origin.{Origin}
use Rattle.client_wiring.specs.declared.joints.Origin.TheVariants.{Handed, Kept, Captured}
use Rattle.client_wiring.specs.declared.joints.Output.{Output}
use Rattle.client_wiring.specs.declared.joints.Output.TheVariants.{Audio as AudioOutput, Midi as MidiOutput}
use Rattle.client_wiring.specs.declared.joints.Sound.{Sound}
use Rattle.client_wiring.specs.Tables.{class_place, is_over, joined, link_numbered, node_place}
use Rattle.client_wiring.specs.Wirings.{carried_on, heard_on, sound_by}

-- the end at the port of an id: this port of the list
pub record IsEndAt (ports : List Port) (nodes : List Client) (id : PortId) (end : End) : Type 0 where
  pub index : ℕ
  pub port : Port
  pub within : index < length ports
  pub there : slice_index_or ports index port ≡ port
  pub its_id : port.id.0 ≡ id.0
  pub kind : end.kind ≡ port.kind
  pub node : end.node ≡ node_place nodes port.node
  pub place : end.place ≡ class_place ports index port
  pub birth : end.birth ≡ port.birth

abbrev pub output_by : PortKind → ℕ → Output
output_by Audio place = AudioOutput place
output_by Midi place = MidiOutput place

abbrev pub output_at : End → Output
output_at source = output_by source.kind source.place

abbrev pub carried_from : List Link → Mark → End → End → Option Carried
carried_from links mark source destination = option_map (carried_on links (output_at source)) (joined mark source.node destination.node)

abbrev pub origin_with : List Link → ℕ → ℕ → ℕ → List Carried → Mark → Option ℕ → Origin
origin_with links place birth n carried Direct (Some from) = Handed (link_place links from n) (count_by (is_over (position_or_len (same_link (link_numbered from n)) links)) carried)
origin_with links place birth n carried Feedback (Some from) = Kept from place birth
origin_with links place birth n carried mark None = Captured place

abbrev pub origin_by : List Link → Mark → End → ℕ → List Carried → Origin
origin_by links mark source n carried = origin_with links source.place source.birth n carried mark source.node

abbrev pub joint_with : List Link → Mark → End → ℕ → List Carried → PortKind → Option ℕ → Option Joint
joint_with links mark source input carried Audio (Some n) = Some (record { node = n; input = input; origin = origin_by links mark source n carried })
joint_with links mark source input carried _ _ = None

abbrev pub joint_from : List Link → Mark → End → End → List Carried → Option Joint
joint_from links mark source destination carried = joint_with links mark source destination.place carried destination.kind destination.node

abbrev pub sound_at : End → Sound
sound_at source = sound_by source.place source.node

abbrev pub heard_with : Sound → ℕ → PortKind → Option ℕ → Option Heard
heard_with sound channel Audio None = Some (heard_on sound channel)
heard_with sound channel _ _ = None

abbrev pub heard_from : End → End → Option Heard
heard_from source destination = heard_with (sound_at source) destination.place destination.kind destination.node

abbrev pub given_with : ℕ → ℕ → PortKind → Way → Option ℕ → Option Given
given_with birth place Audio Out (Some n) = Some (record { birth = birth; node = n; output = place })
given_with birth place _ _ _ = None

abbrev pub given_from : List Client → List ℕ → Port → Option Given
given_from nodes places port = given_with port.birth (slice_index_or places port.id.0 0) port.kind (way_of port) (node_place nodes port.node)
