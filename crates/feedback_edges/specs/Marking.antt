-- What contracts see of marks: ports and edges by ids, and when names say the same.
--     AreAmong ports edges      what `leads`, `mark` and `remark` ask of ports and edges
--     AreNamed ports edges      the nodes of the ports are those of their names, and edges go from outputs to inputs
use Rattle.std.specs.Prelude.{◌≡◌, ℕ, ◌+◌, ◌<◌, List, All, Contains, map}
use Rattle.connection_set.specs.jack_types.specs.declared.ports.Edge.{Edge}
use Rattle.connection_set.specs.jack_types.specs.declared.ports.Node.{Node}
use Rattle.connection_set.specs.jack_types.specs.declared.ports.Node.TheVariants.{Capture, Playback, Client}
use Rattle.connection_set.specs.jack_types.specs.declared.ports.Port.{Port}
use Rattle.connection_set.specs.jack_types.specs.declared.ports.PortId.{PortId}
use Rattle.connection_set.specs.jack_types.specs.declared.ports.Way.{Way}
use Rattle.connection_set.specs.jack_types.specs.declared.ports.Way.TheVariants.{In, Out}
use Rattle.connection_set.specs.session_model.specs.Ids.{same_id_node, way_of}
use Rattle.connection_set.specs.session_model.specs.State.{NamedNode, same_node, source_node, destination_node}
use Rattle.connection_set.specs.Connections.{IsIdOf}

-- capture, playback, and the clients by their ids
abbrev pub node_number : Node → ℕ
node_number Capture = 0
node_number Playback = 1
node_number (Client client) = client.0 + 2

-- capture, playback, or a client with an id up to 64
abbrev pub IsNode : Node → Type 0
IsNode node = node_number node < 67

-- ids and nodes are within the limits, and the ends of edges are ports of the list
pub record AreAmong (ports : List Port) (edges : List Edge) : Type 0 where
  pub ids : All (λ (port : Port). port.id.0 < 2064) ports
  pub nodes : All (λ (port : Port). IsNode port.node) ports
  pub sources : (edge : Edge) → Contains edges edge → IsIdOf ports edge.source
  pub destinations : (edge : Edge) → Contains edges edge → IsIdOf ports edge.destination

-- the node of a port, by its name
abbrev pub node_by_name : Way → List ℕ → NamedNode
node_by_name In name = destination_node name
node_by_name Out name = source_node name

abbrev pub named_node : Port → NamedNode
named_node port = node_by_name (way_of port) port.name

-- a port of this direction has the id
abbrev pub IsEndOf : List Port → Way → PortId → Type 0
IsEndOf ports way id = (port : Port) × Contains ports port × (port.id.0 ≡ id.0) × (way_of port ≡ way)

-- two ports are at one node exactly where their names say so, ids tell ports apart, and edges go from outputs to inputs
pub record AreNamed (ports : List Port) (edges : List Edge) : Type 0 where
  pub apart : (a b : Port) → Contains ports a → Contains ports b → a.id.0 ≡ b.id.0 → a ≡ b
  pub nodes : (a b : Port) → Contains ports a → Contains ports b → same_id_node a.node b.node ≡ same_node (named_node a) (named_node b)
  pub sources : (edge : Edge) → Contains edges edge → IsEndOf ports Out edge.source
  pub destinations : (edge : Edge) → Contains edges edge → IsEndOf ports In edge.destination

-- the ends of edges
abbrev pub ends_by_id : List Edge → List (ℕ × ℕ)
ends_by_id edges = map (λ (edge : Edge). (edge.source.0, edge.destination.0)) edges
