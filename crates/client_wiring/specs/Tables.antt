-- Inside: where ports stand, by their ids. No public clause cites this module.
--     class_number port      each node has four classes of ports: by kind and by way
--     AreIndices ports indices      at each id stands where its port stands
--     ArePlaces ports places      at each id stands its port's place among those of its class
--     AreCounts ports counts      at each class stands how many ports it has
--     node_place nodes node      where a client's node stands among the plan's
--     joined mark from to      the link that an edge between two nodes makes
use Rattle.std.specs.Prelude.{◌≡◌, ℕ, ◌+◌, ◌*◌, ◌<◌, Bool, ◌==◌, List, filter, length, position, take, slice_index_or, Option, None, if◌then◌else◌}
use Rattle.jack_types.specs.declared.ports.Client.{Client}
use Rattle.jack_types.specs.declared.ports.Link.{Link}
use Rattle.jack_types.specs.declared.ports.Mark.{Mark}
use Rattle.jack_types.specs.declared.ports.Node.{Node}
use Rattle.jack_types.specs.declared.ports.Node.TheVariants.{Client as ClientNode}
use Rattle.jack_types.specs.declared.ports.Port.{Port}
use Rattle.jack_types.specs.declared.ports.PortKind.{PortKind}
use Rattle.jack_types.specs.declared.ports.PortKind.TheVariants.{Audio, Midi}
use Rattle.jack_types.specs.declared.ports.Way.{Way}
use Rattle.jack_types.specs.declared.ports.Way.TheVariants.{In, Out}
use Rattle.session_model.specs.Ids.{same_id_node, way_of}
use Rattle.session_model.specs.State.{is_direct}
use Rattle.cycle_plan.specs.feedback_edges.specs.Marking.{node_number}
use Rattle.cycle_plan.specs.Layouts.{link_between}
use Rattle.client_wiring.specs.declared.joints.Carried.{Carried}
use Rattle.client_wiring.specs.declared.joints.Widths.{Widths}

abbrev pub kind_number : PortKind → ℕ
kind_number Audio = 0
kind_number Midi = 2

abbrev pub way_number : Way → ℕ
way_number Out = 0
way_number In = 1

abbrev pub number_in_class : Node → PortKind → Way → ℕ
number_in_class node kind way = node_number node * 4 + kind_number kind + way_number way

abbrev pub class_number : Port → ℕ
class_number port = number_in_class port.node port.kind (way_of port)

abbrev pub in_class : ℕ → Port → Bool
in_class class port = class_number port == class

-- the place of the port at an index, among those of its class
abbrev pub class_place : List Port → ℕ → Port → ℕ
class_place ports k port = length (filter (in_class (class_number port)) (take k ports))

abbrev pub AreIndices : List Port → List ℕ → Type 0
AreIndices ports indices = (k : ℕ) (port : Port) → k < length ports → slice_index_or ports k port ≡ port → slice_index_or indices port.id.0 0 ≡ k

abbrev pub ArePlaces : List Port → List ℕ → Type 0
ArePlaces ports places = (k : ℕ) (port : Port) → k < length ports → slice_index_or ports k port ≡ port → slice_index_or places port.id.0 0 ≡ class_place ports k port

abbrev pub AreCounts : List Port → List ℕ → Type 0
AreCounts ports counts = (class : ℕ) → class < 268 → slice_index_or counts class 0 ≡ length (filter (in_class class) ports)

-- where the node of a client stands among the plan's
abbrev pub node_place : List Client → Node → Option ℕ
node_place nodes node = position (λ (client : Client). same_id_node node (ClientNode client.id)) nodes

abbrev pub link_numbered : ℕ → ℕ → Link
link_numbered from to = record { from = from; to = to }

-- the link that an edge between two nodes makes; a feedback edge makes none
abbrev pub joined : Mark → Option ℕ → Option ℕ → Option Link
joined mark from to = if is_direct mark then link_between from to else None

-- whether a link carries a connection
abbrev pub is_over : ℕ → Carried → Bool
is_over link carried = carried.link == link

-- whether a link comes into a node
abbrev pub is_into : ℕ → Link → Bool
is_into n link = link.to == n

-- the widths of a client by the counts
abbrev pub widths_by : List ℕ → Client → Widths
widths_by counts client = record {
  inputs = slice_index_or counts (number_in_class (ClientNode client.id) Audio In) 0;
  outputs = slice_index_or counts (number_in_class (ClientNode client.id) Audio Out) 0;
}
