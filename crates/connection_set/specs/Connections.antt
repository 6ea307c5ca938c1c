-- What contracts see of a set of connections, which knows ports by their ids.
--     ConnectionSet      the edges in the order of making, and for how many there is room
--     connect_refusal edges source destination      the first refusal of a new connection, if any
--     disconnect_refusal edges source destination      the first refusal of a removal, if any
--     without_edge, without_port, with_direct      the edges behind a removal, behind a port's end, and with one edge made direct
--     StandsFor state ports edges      ports and edges by ids are those of a state
--     RefusesConnect, RefusesDisconnect, MakesConnection, TakesConnection, TakesPort      so are the refusals and the edges behind a call
use Rattle.std.specs.Prelude.{◌≡◌, ℕ, Bool, true, false, not, ◌&&◌, ◌||◌, ◌==◌, nat_le, List, [], ◌∷◌, ◌++◌, length, filter, find, Option, Some, is_none, Contains, slice_index_or, slice_set}
use Rattle.std.specs.List.{list_any}
use Rattle.std.specs.Option.{option_map_or, option_map}
use Rattle.std.specs.Str.{bytes_eq}
use Rattle.session_laws.specs.jack_types.specs.Names.{client_part}
use Rattle.session_laws.specs.jack_types.specs.declared.commands.Command.TheVariants.{Connect, Disconnect}
use Rattle.session_laws.specs.jack_types.specs.declared.ports.Edge.{Edge}
use Rattle.session_laws.specs.jack_types.specs.declared.ports.Mark.{Mark}
use Rattle.session_laws.specs.jack_types.specs.declared.ports.Mark.TheVariants.{Direct}
use Rattle.session_laws.specs.jack_types.specs.declared.ports.Port.{Port}
use Rattle.session_laws.specs.jack_types.specs.declared.ports.PortId.{PortId}
use Rattle.session_laws.specs.jack_types.specs.declared.replies.Refusal.{Refusal}
use Rattle.session_laws.specs.jack_types.specs.declared.replies.Refusal.TheVariants.{NoSource, NoDestination, NotOutput, NotInput, TypeDiffers, Inactive, Exists, Full, NotConnected}
use Rattle.session_laws.specs.session_model.specs.Commands.{refusal, refusals_of, is_input, types_differ}
use Rattle.session_laws.specs.session_model.specs.Ids.{open_port, open_ports, connections}
use Rattle.session_laws.specs.session_model.specs.Soundness.{Apart}
use Rattle.session_laws.specs.session_model.specs.State.{State, Connection, is_active_in}

-- the edges in the order of making, and for how many there is room
pub record ConnectionSet : Type 0 where
  pub edges : List Edge
  pub room : ℕ

abbrev pub same_id : PortId → PortId → Bool
same_id a b = a.0 == b.0

-- whether an edge goes from the one port to the other
abbrev pub joins : PortId → PortId → Edge → Bool
joins source destination edge = same_id edge.source source && same_id edge.destination destination

-- whether a port is at either end of an edge
abbrev pub is_at : PortId → Edge → Bool
is_at port edge = same_id edge.source port || same_id edge.destination port

-- whether two ports that were looked up are joined
abbrev pub are_joined : List Edge → Option Port → Option Port → Bool
are_joined edges (Some source) (Some destination) = list_any (joins source.id destination.id) edges
are_joined edges _ _ = false

abbrev pub are_active : Option Port → Option Port → Bool
are_active (Some source) (Some destination) = source.active && destination.active
are_active _ _ = false

-- where each refusal applies to ports that were looked up
abbrev pub applies_to : List Edge → Option Port → Option Port → Refusal → Bool
applies_to edges source destination NoSource = is_none source
applies_to edges source destination NoDestination = is_none destination
applies_to edges source destination NotOutput = option_map_or (λ port. is_input (open_port port)) source false
applies_to edges source destination NotInput = option_map_or (λ port. not (is_input (open_port port))) destination false
applies_to edges source destination TypeDiffers = types_differ (option_map open_port source) (option_map open_port destination)
applies_to edges source destination Inactive = not (are_active source destination)
applies_to edges source destination Exists = are_joined edges source destination
applies_to edges source destination Full = nat_le 512 (length edges)
applies_to edges source destination NotConnected = not (are_joined edges source destination)
applies_to edges source destination _ = false

-- the first refusal of a new connection, in the order of its command
abbrev pub connect_refusal : List Edge → Option Port → Option Port → Option Refusal
connect_refusal edges source destination = find (applies_to edges source destination) (refusals_of (Connect [] []))

-- the first refusal of a removal, in the order of its command
abbrev pub disconnect_refusal : List Edge → Option Port → Option Port → Option Refusal
disconnect_refusal edges source destination = find (applies_to edges source destination) (refusals_of (Disconnect [] []))

-- the edges but those from the one port to the other
abbrev pub without_edge : Option Port → Option Port → List Edge → List Edge
without_edge (Some source) (Some destination) edges = filter (λ edge. not (joins source.id destination.id edge)) edges
without_edge _ _ edges = edges

-- the edges but those of a port
abbrev pub without_port : PortId → List Edge → List Edge
without_port port edges = filter (λ edge. not (is_at port edge)) edges

abbrev pub no_edge : Edge
no_edge = record { source = record { 0 = 0 }; destination = record { 0 = 0 }; mark = Direct }

-- the edge at a place
abbrev pub edge_at : List Edge → ℕ → Edge
edge_at edges place = slice_index_or edges place no_edge

-- the edges, the one at a place made direct
abbrev pub with_direct : ℕ → List Edge → List Edge
with_direct place edges = slice_set edges place (record (edge_at edges place) { mark = Direct })

-- a name's port, as it was looked up
abbrev pub IsNamed : List Port → List ℕ → Option Port → Type 0
IsNamed ports name port = port ≡ find (λ (other : Port). bytes_eq other.name name) ports

-- an id of one of the ports
abbrev pub IsIdOf : List Port → PortId → Type 0
IsIdOf ports id = (port : Port) × Contains ports port × (same_id port.id id ≡ true)

-- ports and edges by ids are those of a state
pub record StandsFor (state : State) (ports : List Port) (edges : List Edge) : Type 0 where
  pub ports_are : open_ports ports ≡ state.ports
  pub edges_are : connections ports edges ≡ state.edges
  pub ids : Apart (λ (port : Port). port.id.0) ports
  pub names : Apart (λ (port : Port). port.name) ports
  pub sources : (edge : Edge) → Contains edges edge → IsIdOf ports edge.source
  pub destinations : (edge : Edge) → Contains edges edge → IsIdOf ports edge.destination
  pub activity : (port : Port) → Contains ports port → port.active ≡ is_active_in state (client_part port.name)

-- in every state that the edges stand for, a new connection of these ports is refused as the command is
abbrev pub RefusesConnect : List Edge → Option Port → Option Port → Type 0
RefusesConnect edges source destination = (state : State) (ports : List Port) (from to : List ℕ) → StandsFor state ports edges
    → IsNamed ports from source → IsNamed ports to destination → connect_refusal edges source destination ≡ refusal state (Connect from to)

-- and so is a removal
abbrev pub RefusesDisconnect : List Edge → Option Port → Option Port → Type 0
RefusesDisconnect edges source destination = (state : State) (ports : List Port) (from to : List ℕ) → StandsFor state ports edges
    → IsNamed ports from source → IsNamed ports to destination → disconnect_refusal edges source destination ≡ refusal state (Disconnect from to)

-- in every state that the old edges stand for, the new ones are those with the connection last
abbrev pub MakesConnection : List Edge → Port → Port → Mark → List Edge → Type 0
MakesConnection old source destination mark new = (state : State) (ports : List Port) (from to : List ℕ) → StandsFor state ports old
    → IsNamed ports from (Some source) → IsNamed ports to (Some destination)
    → connections ports new ≡ state.edges ++ record { source = from; destination = to; mark = mark } ∷ []

-- the new ones are those but the connection between the names
abbrev pub TakesConnection : List Edge → Option Port → Option Port → List Edge → Type 0
TakesConnection old source destination new = (state : State) (ports : List Port) (from to : List ℕ) → StandsFor state ports old
    → IsNamed ports from source → IsNamed ports to destination
    → connections ports new ≡ filter (λ (edge : Connection). not (bytes_eq edge.source from && bytes_eq edge.destination to)) state.edges

-- the new ones are those but the connections of the port
abbrev pub TakesPort : List Edge → PortId → List Edge → Type 0
TakesPort old id new = (state : State) (ports : List Port) (port : Port) → StandsFor state ports old → Contains ports port → port.id ≡ id
    → connections ports new ≡ filter (λ (edge : Connection). not (bytes_eq edge.source port.name || bytes_eq edge.destination port.name)) state.edges
