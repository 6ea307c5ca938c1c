-- Inside: the ranges by ids, and what a table of ranges shows of them. No public clause cites this module.
--     is_near mode port      its range is the join over its own edges
--     join_of ranges      the join of the ranges, if there is one
--     brought, handed      the range of a port over its edges, and over its client
--     handed_within depth      the range of a port over its client, going so deep
--     Shows test range ports table      the table has the ranges of the ports that pass
use Rattle.std.specs.Prelude.{◌≡◌, ℕ, zero, suc, ◌-◌, ◌<◌, ◌^◌, min, max, Bool, true, not, ◌&&◌, ◌==◌, List, [], ◌∷◌, map, filter, position, slice_get, slice_index_or, Option, Some, None, if◌then◌else◌}
use Rattle.std.specs.Option.{option_map_or}
use Rattle.jack_types.specs.declared.ports.Delay.{Delay}
use Rattle.jack_types.specs.declared.ports.Edge.{Edge}
use Rattle.jack_types.specs.declared.ports.Mode.{Mode}
use Rattle.jack_types.specs.declared.ports.Mode.TheVariants.{Capture, Playback}
use Rattle.jack_types.specs.declared.ports.Node.{Node}
use Rattle.jack_types.specs.declared.ports.Port.{Port}
use Rattle.jack_types.specs.declared.ports.PortId.{PortId}
use Rattle.jack_types.specs.declared.ports.Range.{Range}
use Rattle.session_model.specs.Commands.{is_input}
use Rattle.session_model.specs.Ids.{delay_at, open_port, port_with, same_id_node}
use Rattle.session_model.specs.Latencies.{joined, later_by, no_range}
use Rattle.session_model.specs.State.{is_direct}
use Rattle.latency_ranges.specs.Graphs.{is_device}

-- since capture inputs are joined over their edges, until playback outputs
abbrev pub is_near : Mode → Port → Bool
is_near Capture port = is_input (open_port port)
is_near Playback port = not (is_input (open_port port))

abbrev pub is_far : Mode → Port → Bool
is_far mode port = not (is_near mode port)

-- the end of an edge whose range is a join over edges
abbrev pub near_end : Mode → Edge → PortId
near_end Capture edge = edge.destination
near_end Playback edge = edge.source

abbrev pub far_end : Mode → Edge → PortId
far_end Capture edge = edge.source
far_end Playback edge = edge.destination

-- whether it is a direct edge at the port
abbrev pub is_edge_at : Mode → PortId → Edge → Bool
is_edge_at mode id edge = is_direct edge.mark && ((near_end mode edge).0 == id.0)

-- whether the client of a node has the port, and the port is joined over its edges
abbrev pub is_beside : Mode → Node → Port → Bool
is_beside mode node port = same_id_node port.node node && is_near mode port

-- the join of the ranges, if there is one
abbrev pub join_of : List Range → Option Range
join_of [] = None
join_of (range ∷ ranges) = Some (joined (range ∷ ranges))

-- one more range
abbrev pub join_with : Option Range → Range → Range
join_with None next = next
join_with (Some range) next = record { min = min range.min next.min; max = max range.max next.max }

abbrev pub or_none : Option Range → Range
or_none None = no_range
or_none (Some range) = range

abbrev pub bears : PortId → Port → Bool
bears id port = port.id.0 == id.0

-- the range that stands at the first port of this id
abbrev pub at_place : List Range → Option ℕ → Range
at_place table None = no_range
at_place table (Some place) = slice_index_or table place no_range

abbrev pub at_port : List Port → List Range → PortId → Range
at_port ports table id = at_place table (position (bears id) ports)

-- no number above the greatest that a range can have
abbrev pub capped : Range → Range
capped range = record { min = min range.min (2 ^ 32 - 1); max = min range.max (2 ^ 32 - 1) }

-- the range of the port of this id
abbrev pub range_to : (Port → Range) → List Port → PortId → Range
range_to range ports id = option_map_or range (port_with ports id) no_range

-- over a port's edges, from the ranges at their other ends
abbrev pub brought : List Port → List Edge → Mode → (Port → Range) → Port → Range
brought ports edges mode range port = joined (map (λ (edge : Edge). range_to range ports (far_end mode edge)) (filter (is_edge_at mode port.id) edges))

-- the join of a client's ports that are joined over their edges
abbrev pub beside : List Port → Mode → (Port → Range) → Node → Range
beside ports mode range node = joined (map range (filter (is_beside mode node) ports))

-- over a client, plus its delay
abbrev pub handed : List Port → List Delay → Mode → (Port → Range) → Node → Range
handed ports delays mode range node = if is_device node then no_range else later_by (delay_at delays node) (beside ports mode range node)

-- the same with no number above the greatest that a range can have
abbrev pub held : List Port → List Delay → Mode → (Port → Range) → Node → Range
held ports delays mode range node = if is_device node then no_range else capped (later_by (delay_at delays node) (beside ports mode range node))

-- over a client, going so deep
abbrev pub handed_within : List Port → List Edge → List Delay → Mode → ℕ → Port → Range
handed_within ports edges delays mode zero port = no_range
handed_within ports edges delays mode (suc depth) port = handed ports delays mode (brought ports edges mode (handed_within ports edges delays mode depth)) port.node

-- the table has the ranges of the ports that pass
abbrev pub Shows : (Port → Bool) → (Port → Range) → List Port → List Range → Type 0
Shows test range ports table = (k : ℕ) (port : Port) → slice_get ports k ≡ Some port → test port ≡ true → slice_index_or table k no_range ≡ range port

-- a table in which nothing but a port's own range may have changed
abbrev pub IsSameElsewhere : ℕ → List Range → List Range → Type 0
IsSameElsewhere place old new = (k : ℕ) → (k ≡ place → ⊥) → slice_index_or new k no_range ≡ slice_index_or old k no_range

-- the same of the ports before a place
abbrev pub IsShownBelow : ℕ → (Port → Bool) → (Port → Range) → List Port → List Range → Type 0
IsShownBelow place test range ports table = (k : ℕ) (port : Port) → k < place → slice_get ports k ≡ Some port → test port ≡ true → slice_index_or table k no_range ≡ range port

-- ids are numbers of 16 bits, of the ports before a place
abbrev pub HaveIds : ℕ → List Port → Type 0
HaveIds place ports = (k : ℕ) (port : Port) → k < place → slice_get ports k ≡ Some port → port.id.0 < 2 ^ 16
