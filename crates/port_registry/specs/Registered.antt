-- What a registry holds, and what each of its calls makes of it.
--     Registered      the clients in order of opening, the ports in order of birth, and for how many of each there is room
--     state_of held      the state that these clients and ports are, with no edges, no master and no timeout
--     client_by held name, port_by held name      what has the name, if anything
--     system_ports capture playback      the ports of `system`, without their ids
--     AreInOrder ports      ports stand in order of birth
--     IsRegistered held      what is true of every registry
use Rattle.std.specs.Prelude.{◌≡◌, ◌≤◌, ◌<◌, ℕ, Bool, true, false, not, ◌&&◌, List, [], ◌∷◌, ◌++◌, map, filter, find, length, count_by, Contains, Option, Some, None, if◌then◌else◌}
use Rattle.std.specs.List.Sorted.{IsNonDecreasingBy}
use Rattle.std.specs.Str.{bytes_eq}
use Rattle.session_laws.specs.jack_types.specs.Names.{client_part}
use Rattle.session_laws.specs.jack_types.specs.Ports.{way_flags}
use Rattle.session_laws.specs.jack_types.specs.declared.kinds.Kind.{Kind}
use Rattle.session_laws.specs.jack_types.specs.declared.kinds.Kind.TheVariants.{Pass}
use Rattle.session_laws.specs.jack_types.specs.declared.ports.Client.{Client}
use Rattle.session_laws.specs.jack_types.specs.declared.ports.ClientId.{ClientId}
use Rattle.session_laws.specs.jack_types.specs.declared.ports.Node.{Node}
use Rattle.session_laws.specs.jack_types.specs.declared.ports.Node.TheVariants.{Capture, Playback, Client as ClientNode}
use Rattle.session_laws.specs.jack_types.specs.declared.ports.Port.{Port}
use Rattle.session_laws.specs.jack_types.specs.declared.ports.PortId.{PortId}
use Rattle.session_laws.specs.jack_types.specs.declared.ports.PortKind.{PortKind}
use Rattle.session_laws.specs.jack_types.specs.declared.ports.PortKind.TheVariants.{Audio}
use Rattle.session_laws.specs.jack_types.specs.declared.ports.Way.{Way}
use Rattle.session_laws.specs.jack_types.specs.declared.ports.Way.TheVariants.{In, Out}
use Rattle.session_laws.specs.session_model.specs.Commands.{is_way}
use Rattle.session_laws.specs.session_model.specs.Ids.{open_ports, open_port, way_of}
use Rattle.session_laws.specs.session_model.specs.Soundness.{Apart}
use Rattle.session_laws.specs.session_model.specs.Samples.{below}
use Rattle.session_laws.specs.session_model.specs.State.{State, OpenClient, OpenPort, capture_port, playback_port, is_system, system_name}

pub record Registered : Type 0 where
  pub clients : List Client
  pub ports : List Port
  pub client_room : ℕ
  pub port_room : ℕ

abbrev pub open_client : Client → OpenClient
open_client client = record { name = client.name; kind = client.kind; birth = client.birth; active = client.active; slow = client.slow }

abbrev pub open_clients : List Client → List OpenClient
open_clients clients = map open_client clients

abbrev pub state_of : Registered → State
state_of held = record {
  clients = open_clients held.clients;
  ports = open_ports held.ports;
  edges = [];
  master = None;
  timeout = None;
}

abbrev pub has_name : List ℕ → Client → Bool
has_name name client = bytes_eq client.name name

abbrev pub is_named : List ℕ → Port → Bool
is_named name port = bytes_eq port.name name

-- whether it is a port of the client of this name
abbrev pub is_of : List ℕ → Port → Bool
is_of client port = bytes_eq (client_part port.name) client

abbrev pub client_by : Registered → List ℕ → Option Client
client_by held name = find (has_name name) held.clients

abbrev pub port_by : Registered → List ℕ → Option Port
port_by held name = find (is_named name) held.ports

-- the client that is always open
abbrev pub system_entry : Client
system_entry = record { id = record { 0 = 0 }; name = system_name; birth = 0; kind = Pass; active = true; slow = 0 }

-- one more client, not yet active
abbrev pub with_opened : ClientId → List ℕ → Kind → ℕ → Registered → Registered
with_opened id name kind birth held = record held {
  clients = held.clients ++ record { id = id; name = name; birth = birth; kind = kind; active = false; slow = 0 } ∷ [];
}

-- neither the client nor its ports
abbrev pub without_client : List ℕ → Registered → Registered
without_client name held = record held {
  clients = filter (λ client. not (has_name name client)) held.clients;
  ports = filter (λ port. not (is_of name port)) held.ports;
}

-- the client and its ports active or not
abbrev pub with_active : List ℕ → Bool → Registered → Registered
with_active name active held = record held {
  clients = map (λ client. if has_name name client then record client { active = active } else client) held.clients;
  ports = map (λ port. if is_of name port then record port { active = active } else port) held.ports;
}

-- the client with this slow number
abbrev pub with_slow : List ℕ → ℕ → Registered → Registered
with_slow name cycles held = record held {
  clients = map (λ client. if has_name name client then record client { slow = cycles } else client) held.clients;
}

-- a client's port, which has the client's node and is active where the client is
abbrev pub client_port : PortId → List ℕ → Way → PortKind → ℕ → Client → Port
client_port id name way kind birth client = record {
  id = id;
  name = name;
  birth = birth;
  node = ClientNode client.id;
  flags = record { 0 = way_flags way };
  kind = kind;
  active = client.active;
}

-- one more port
abbrev pub with_port : Port → Registered → Registered
with_port port held = record held { ports = held.ports ++ port ∷ [] }

-- not the port
abbrev pub without_port : List ℕ → Registered → Registered
without_port name held = record held { ports = filter (λ port. not (is_named name port)) held.ports }

abbrev pub system_node : Way → Node
system_node Out = Capture
system_node In = Playback

-- the flags of a physical port of the device: what is captured is an output, what is played back an input
abbrev pub system_flags : Way → ℕ
system_flags Out = 0x16
system_flags In = 0x15

abbrev pub device_port : Way → ℕ → OpenPort
device_port Out i = capture_port i
device_port In i = playback_port i

-- the i-th port of `system` of a direction, without its id
abbrev pub system_port : Way → ℕ → Port
system_port way i = record {
  id = record { 0 = 0 };
  name = (device_port way i).name;
  birth = 0;
  node = system_node way;
  flags = record { 0 = system_flags way };
  kind = Audio;
  active = true;
}

-- a port but for its id
abbrev pub unlisted : Port → Port
unlisted port = record port { id = record { 0 = 0 } }

-- the ports of `system`, capture before playback, without their ids
abbrev pub system_ports : ℕ → ℕ → List Port
system_ports capture playback = map (system_port Out) (below capture) ++ map (system_port In) (below playback)

-- ports stand in order of birth; all of `system`'s have one
abbrev pub AreInOrder : List Port → Type 0
AreInOrder ports = IsNonDecreasingBy (λ (port : Port). port.birth) ports

-- the node of a client's ports; `system` is two
abbrev pub node_for : Client → Way → Node
node_for client way = if is_system client.name then system_node way else ClientNode client.id

-- a port is of an open client, with its node, and active where the client is
pub record IsPlaced (clients : List Client) (port : Port) : Type 0 where
  pub client : Client
  pub listed : Contains clients client
  pub named : client.name ≡ client_part port.name
  pub noded : port.node ≡ node_for client (way_of port)
  pub activity : port.active ≡ client.active

-- names and ids tell clients apart, and ports; each port is placed; `system` is there; no limit is passed
pub record IsRegistered (held : Registered) : Type 0 where
  pub system : client_by held system_name ≡ Some system_entry
  pub client_names : Apart (λ (client : Client). client.name) held.clients
  pub client_ids : Apart (λ (client : Client). client.id.0) held.clients
  pub port_names : Apart (λ (port : Port). port.name) held.ports
  pub port_ids : Apart (λ (port : Port). port.id.0) held.ports
  pub placed : (port : Port) → Contains held.ports port → IsPlaced held.clients port
  pub client_ids_within : (client : Client) → Contains held.clients client → client.id.0 ≤ 64
  pub port_ids_below : (port : Port) → Contains held.ports port → port.id.0 < 2064
  pub few_clients : length held.clients ≤ 65
  pub few_ports : (client : List ℕ) (way : Way) → count_by (λ port. is_way way (open_port port)) (filter (is_of client) held.ports) ≤ 16
