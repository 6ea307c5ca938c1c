-- Nodes by their numbers, for a search over many nodes.
--     IsTable ports table      at each port's id stands its node's number
--     number_links table edges      the numbers of the nodes that direct edges join
--     IsMarked marked n      the node of this number is marked
use Rattle.std.specs.Prelude.{◌≡◌, ℕ, ◌<◌, Bool, true, false, not, List, map, filter, length, slice_index, slice_index_or}
use Rattle.connection_set.specs.jack_types.specs.declared.ports.Edge.{Edge}
use Rattle.connection_set.specs.jack_types.specs.declared.ports.Port.{Port}
use Rattle.connection_set.specs.session_model.specs.Ids.{node_with}
use Rattle.connection_set.specs.session_model.specs.Loops.{Leads}
use Rattle.connection_set.specs.session_model.specs.State.{is_direct}
use Rattle.feedback_edges.specs.Marking.{node_number}

abbrev pub number_with : List Port → ℕ → ℕ
number_with ports id = node_number (node_with ports (record { 0 = id }))

-- at each id stands the number of its port's node
abbrev pub IsTable : List Port → List ℕ → Type 0
IsTable ports table = (id : ℕ) → id < 2064 → slice_index table id ≡ number_with ports id

abbrev pub link_by : List ℕ → Edge → ℕ × ℕ
link_by table edge = (slice_index table edge.source.0, slice_index table edge.destination.0)

abbrev pub number_links : List ℕ → List Edge → List (ℕ × ℕ)
number_links table edges = map (link_by table) (filter (λ (edge : Edge). is_direct edge.mark) edges)

abbrev pub IsMarked : List Bool → ℕ → Type 0
IsMarked marked n = slice_index_or marked n false ≡ true

-- a direct edge from a marked node goes to a marked one
abbrev pub Passes : List ℕ → List Bool → Edge → Type 0
Passes table marked edge = is_direct edge.mark ≡ true → IsMarked marked (link_by table edge).0 → IsMarked marked (link_by table edge).1

-- the marked nodes are nodes that `from` leads to
abbrev pub AreLed : List ℕ → List Edge → ℕ → List Bool → Type 0
AreLed table edges from marked = (n : ℕ) → IsMarked marked n → Leads (number_links table edges) from n

abbrev pub unmarked : List Bool → ℕ
unmarked marked = length (filter not marked)

-- a feedback edge that closes no loop
abbrev pub ClosesNone : List ℕ → List Edge → Edge → Type 0
ClosesNone table edges edge = (is_direct edge.mark ≡ false) × (Leads (number_links table edges) (link_by table edge).1 (link_by table edge).0 → ⊥)
