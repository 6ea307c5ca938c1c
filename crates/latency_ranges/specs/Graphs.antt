-- What contracts see of ranges: ports and edges by ids, and the states that they are.
--     IsGraph ports edges      what `ranges` asks of ports and edges
--     ranges_of ports edges delays mode      the range of each port
--     IsStateOf state ports edges delays      the state has these ports and edges, and its clients are late by these delays
use Rattle.std.specs.Prelude.{◌≡◌, ℕ, Bool, true, false, List, Contains, map}
use Rattle.jack_types.specs.Names.{client_part}
use Rattle.jack_types.specs.declared.ports.Delay.{Delay}
use Rattle.jack_types.specs.declared.ports.Edge.{Edge}
use Rattle.jack_types.specs.declared.ports.Mode.{Mode}
use Rattle.jack_types.specs.declared.ports.Node.{Node}
use Rattle.jack_types.specs.declared.ports.Node.TheVariants.{Client}
use Rattle.jack_types.specs.declared.ports.Port.{Port}
use Rattle.jack_types.specs.declared.ports.PortId.{PortId}
use Rattle.jack_types.specs.declared.ports.Range.{Range}
use Rattle.jack_types.specs.declared.ports.Way.{Way}
use Rattle.jack_types.specs.declared.ports.Way.TheVariants.{In, Out}
use Rattle.session_model.specs.Ids.{connections, delay_at, open_port, open_ports, same_id_node, way_of, wiring_by}
use Rattle.session_model.specs.Latencies.{delay_in, latency, range_of}
use Rattle.session_model.specs.Soundness.{Apart}
use Rattle.session_model.specs.State.{NamedNode, State, destination_node, is_system, same_node, source_node}

-- a node of `system`
abbrev pub is_device : Node → Bool
is_device (Client _) = false
is_device _ = true

-- the node of a port, by its name
abbrev pub node_by_name : Way → List ℕ → NamedNode
node_by_name In name = destination_node name
node_by_name Out name = source_node name

abbrev pub named_node : Port → NamedNode
named_node port = node_by_name (way_of port) port.name

-- a port of this direction has the id
abbrev pub IsEndOf : List Port → Way → PortId → Type 0
IsEndOf ports way id = (port : Port) × Contains ports port × (port.id.0 ≡ id.0) × (way_of port ≡ way)

-- ids and names tell ports apart, two ports are at one node exactly where their names say so, and edges go from outputs to inputs
pub record IsGraph (ports : List Port) (edges : List Edge) : Type 0 where
  pub ids : Apart (λ (port : Port). port.id.0) ports
  pub names : Apart (λ (port : Port). port.name) ports
  pub devices : (port : Port) → Contains ports port → is_device port.node ≡ is_system (client_part port.name)
  pub nodes : (a b : Port) → Contains ports a → Contains ports b → same_id_node a.node b.node ≡ same_node (named_node a) (named_node b)
  pub sources : (edge : Edge) → Contains edges edge → IsEndOf ports Out edge.source
  pub destinations : (edge : Edge) → Contains edges edge → IsEndOf ports In edge.destination

abbrev pub ranges_of : List Port → List Edge → List Delay → Mode → List Range
ranges_of ports edges delays mode = map (λ (port : Port). range_of (wiring_by ports edges delays) mode (open_port port)) ports

-- the ports and edges of the state, and for each client that has a port its delay
pub record IsStateOf (state : State) (ports : List Port) (edges : List Edge) (delays : List Delay) : Type 0 where
  pub ports_are : state.ports ≡ open_ports ports
  pub edges_are : state.edges ≡ connections ports edges
  pub delays_are : (port : Port) → Contains ports port → is_device port.node ≡ false → delay_in state (client_part port.name) ≡ delay_at delays port.node

-- the latency of each port, by its name
abbrev pub latencies_in : State → Mode → List Port → List Range
latencies_in state mode ports = map (λ (port : Port). latency state mode port.name) ports
