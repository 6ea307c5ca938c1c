-- The nodes of a plan and the links between them, by ids.
--     LaidOut      the nodes and the links
--     ordered leads_to clients      each client before the first node that it leads to
--     distinct links      each link once, where it came first
--     laid_out clients ports edges      the nodes and the links of a graph
--     JoinsEdges ports nodes edges links      the links are those of the direct edges between nodes, and no others
--     CanLayOut clients ports edges      what it takes to lay out a graph
use Rattle.std.specs.Prelude.{◌≡◌, ℕ, ◌≤◌, Bool, not, ◌&&◌, ◌==◌, ◌↔◌, Contains, List, [], ◌∷◌, ◌++◌, length, filter, filter_map, fold, position, All, Option, Some, None, if◌then◌else◌}
use Rattle.std.specs.List.{list_any}
use Rattle.graph_word.specs.jack_types.specs.declared.ports.Client.{Client}
use Rattle.graph_word.specs.jack_types.specs.declared.ports.Edge.{Edge}
use Rattle.graph_word.specs.jack_types.specs.declared.ports.Link.{Link}
use Rattle.graph_word.specs.jack_types.specs.declared.ports.Node.{Node}
use Rattle.graph_word.specs.jack_types.specs.declared.ports.Node.TheVariants.{Capture, Playback, Client as ClientNode}
use Rattle.graph_word.specs.jack_types.specs.declared.ports.Port.{Port}
use Rattle.graph_word.specs.session_model.specs.Ids.{node_links, node_with, same_id_node}
use Rattle.graph_word.specs.session_model.specs.Loops.{leads}
use Rattle.graph_word.specs.session_model.specs.State.{is_direct}
use Rattle.feedback_edges.specs.Marking.{AreAmong}

-- the nodes, each a client, and the links between their places
pub record LaidOut : Type 0 where
  pub nodes : List Client
  pub links : List Link

-- the active clients but `system`, which has the id 0
abbrev pub is_player : Client → Bool
is_player client = client.active && not (client.id.0 == 0)

-- a client goes before the first node that it leads to
abbrev pub with_node : {X : Type 0} → (X → X → Bool) → X → List X → List X
with_node leads_to client [] = client ∷ []
with_node leads_to client (node ∷ nodes) = if leads_to client node then client ∷ node ∷ nodes else node ∷ with_node leads_to client nodes

abbrev pub ordered : {X : Type 0} → (X → X → Bool) → List X → List X
ordered leads_to clients = fold (λ nodes client. with_node leads_to client nodes) [] clients

-- whether direct edges lead from a client to a client
abbrev pub leads_to : List Port → List Edge → Client → Client → Bool
leads_to ports edges a b = leads same_id_node (node_links ports edges) (ClientNode a.id) (ClientNode b.id)

-- the place of a node's client, if it has one
abbrev pub place_of : List Client → Node → Option ℕ
place_of nodes Capture = None
place_of nodes Playback = None
place_of nodes (ClientNode id) = position (λ (client : Client). client.id.0 == id.0) nodes

abbrev pub link_between : Option ℕ → Option ℕ → Option Link
link_between (Some from) (Some to) = Some (record { from = from; to = to })
link_between _ _ = None

-- the link that a direct edge between two nodes makes
abbrev pub link_of : List Port → List Client → Edge → Option Link
link_of ports nodes edge = if is_direct edge.mark then link_between (place_of nodes (node_with ports edge.source)) (place_of nodes (node_with ports edge.destination)) else None

abbrev pub same_link : Link → Link → Bool
same_link a b = a.from == b.from && a.to == b.to

-- each link once, where it came first
abbrev pub with_link : List Link → Link → List Link
with_link links link = if list_any (same_link link) links then links else links ++ link ∷ []

abbrev pub distinct : List Link → List Link
distinct links = fold with_link [] links

abbrev pub laid_out : List Client → List Port → List Edge → LaidOut
laid_out clients ports edges =
    let nodes = ordered (leads_to ports edges) (filter is_player clients) in
    record { nodes = nodes; links = distinct (filter_map (link_of ports nodes) edges) }

-- the links are those of the direct edges between nodes, and no others
abbrev pub JoinsEdges : List Port → List Client → List Edge → List Link → Type 0
JoinsEdges ports nodes edges links = (link : Link) → Contains links link ↔ ((edge : Edge) × Contains edges edge × (link_of ports nodes edge ≡ Some link))

-- what it takes to lay out a graph
pub record CanLayOut (clients : List Client) (ports : List Port) (edges : List Edge) : Type 0 where
  pub among : AreAmong ports edges
  pub ids : All (λ (client : Client). client.id.0 ≤ 64) clients
  pub few : length clients ≤ 65
  pub few_edges : length edges ≤ 512
