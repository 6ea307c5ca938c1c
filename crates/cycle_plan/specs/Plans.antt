-- What contracts see of a plan.
--     Planned      the channels that it is for, its changes, the graph behind them, its nodes and its links
--     state_of_plan plan      the replay of its changes
--     nodes_of state, links_of state      the nodes and the links of a state, by names
--     IsPlanned plan      what is true of every plan
--     HasTempos changes      where the changes make a master, its numbers are a tempo
use Rattle.std.specs.Prelude.{◌≡◌, ℕ, ◌+◌, ◌≤◌, ◌↔◌, All, Bool, Contains, List, filter_map, length, map, Option, Some, None, if◌then◌else◌}
use Rattle.std.specs.List.Sorted.{IsPermutation}
use Rattle.graph_word.specs.jack_types.specs.Names.{client_part}
use Rattle.graph_word.specs.jack_types.specs.declared.commands.Change.{Change}
use Rattle.graph_word.specs.jack_types.specs.declared.ports.Client.{Client}
use Rattle.graph_word.specs.jack_types.specs.declared.ports.Link.{Link}
use Rattle.graph_word.specs.declared.plans.Base.{Base}
use Rattle.graph_word.specs.Publications.{IsFront}
use Rattle.port_registry.specs.session_laws.specs.LoopFree.{IsLoopFree}
use Rattle.graph_word.specs.session_model.specs.Activation.{AreLinks, incoming}
use Rattle.graph_word.specs.session_model.specs.Benches.{IsPlan, place_in}
use Rattle.graph_word.specs.session_model.specs.Commands.{replay}
use Rattle.graph_word.specs.session_model.specs.Courses.{players}
use Rattle.graph_word.specs.session_model.specs.Ids.{node_links}
use Rattle.graph_word.specs.session_model.specs.Loops.{direct_links, leads}
use Rattle.graph_word.specs.session_model.specs.Replies.{AreLawful}
use Rattle.graph_word.specs.session_model.specs.Samples.{below}
use Rattle.graph_word.specs.session_model.specs.Soundness.{Apart}
use Rattle.graph_word.specs.session_model.specs.State.{ClientNode, Connection, OpenClient, State, is_direct, opening, same_node}
use Rattle.port_registry.specs.Registered.{open_clients}
use Rattle.cycle_plan.specs.Graphs.{HasTempo, IsNetwork, Network, state_of}
use Rattle.cycle_plan.specs.Layouts.{JoinsEdges, LaidOut, distinct, laid_out, link_between, ordered}

-- the channels that it is for, its changes, the graph behind them, its nodes and the links between these
pub record Planned : Type 0 where
  pub base : Base
  pub changes : List Change
  pub network : Network
  pub nodes : List Client
  pub links : List Link

-- the state before any change, and the one behind the plan's
abbrev pub opening_of : Base → State
opening_of base = opening base.capture base.playback

abbrev pub state_of_plan : Planned → State
state_of_plan plan = replay (opening_of plan.base) plan.changes

-- whether direct edges lead from a client to a client
abbrev pub leads_in : State → OpenClient → OpenClient → Bool
leads_in state a b = leads same_node (direct_links state.edges) (ClientNode a.name) (ClientNode b.name)

-- the playing clients in order of opening, each before the first that it leads to
abbrev pub nodes_of : State → List OpenClient
nodes_of state = ordered (leads_in state) (players state)

-- the link that a direct edge between two nodes makes
abbrev pub link_in : List OpenClient → Connection → Option Link
link_in nodes edge = if is_direct edge.mark then link_between (place_in nodes (client_part edge.source)) (place_in nodes (client_part edge.destination)) else None

-- the links of the direct edges in the order of making, each once
abbrev pub links_of : State → List Link
links_of state = distinct (filter_map (link_in (nodes_of state)) state.edges)

-- the changes are lawful and the graph is their replay; nodes and links are those of the state, and make a plan of it; the nodes are open clients, with their ids
pub record IsPlanned (plan : Planned) : Type 0 where
  pub few_capture : plan.base.capture ≤ 8
  pub few_playback : plan.base.playback ≤ 8
  pub lawful : AreLawful (opening_of plan.base) plan.changes
  pub few : length plan.changes ≤ 4096
  pub network : IsNetwork plan.network
  pub state : state_of plan.network ≡ state_of_plan plan
  pub nodes : open_clients plan.nodes ≡ nodes_of (state_of_plan plan)
  pub listed : (client : Client) → Contains plan.nodes client → Contains plan.network.held.clients client
  pub links : plan.links ≡ links_of (state_of_plan plan)
  pub moved : IsPermutation (players (state_of_plan plan)) (open_clients plan.nodes)
  pub joined : (link : Link) → Contains plan.links link ↔ ((edge : Connection) × Contains (state_of_plan plan).edges edge × (link_in (open_clients plan.nodes) edge ≡ Some link))
  pub is_plan : IsPlan (state_of_plan plan) (open_clients plan.nodes) plan.links

-- where the changes make a master, its numbers are a tempo
abbrev pub HasTempos : List Change → Type 0
HasTempos changes = All (λ (change : Change). HasTempo change.command) changes

-- of each node how many links come into it, and one for its start
abbrev pub AreCounts : ℕ → List Link → List ℕ → Type 0
AreCounts nodes links counts = counts ≡ map (λ n. length (incoming links n) + 1) (below nodes)

-- a graph is behind the first of these lawful changes
pub record CanReplay (state : State) (kept changes : List Change) : Type 0 where
  pub before : State
  pub lawful : AreLawful before changes
  pub tempos : HasTempos changes
  pub front : IsFront kept changes
  pub state_is : state ≡ replay before kept

-- nodes and links are those of a network, laid out by ids
pub record LaysOut (network : Network) (laid : LaidOut) : Type 0 where
  pub network_is : IsNetwork network
  pub laid_is : laid ≡ laid_out network.held.clients network.held.ports network.set.edges
  pub joins : JoinsEdges network.held.ports laid.nodes network.set.edges laid.links
  pub upward : IsLoopFree (node_links network.held.ports network.set.edges) → Apart (λ (client : Client). client.id.0) network.held.clients → AreLinks (length laid.nodes) laid.links
  pub few_nodes : length laid.nodes ≤ 65
  pub few_links : length laid.links ≤ 512
