-- What contracts see of a graph.
--     Network      the clients and ports, the connections, the master and the timeout
--     state_of network      the state of the definitions that a network is
--     HaveEnds ports edges      each edge goes from an output to an input of the list
--     IsNetwork network      what is true of every graph
--     HasTempo command      a new master's numbers are a tempo
--     numbers_of master, tempo_numbers tempo      the numbers of a master and of a tempo
--     IsApplied before number command result behind      a command was answered by the definitions, and made of the network what they say
use Rattle.std.specs.Prelude.{◌≡◌, ℕ, ◌≤◌, ⊤, List, Contains, Option, OnErr, Result, filter, length}
use Rattle.std.specs.Option.{option_map}
use Rattle.graph_word.specs.jack_types.specs.declared.commands.Command.{Command}
use Rattle.graph_word.specs.jack_types.specs.declared.commands.Command.TheVariants.{Timebase, TimebaseIf}
use Rattle.graph_word.specs.jack_types.specs.declared.ports.Edge.{Edge}
use Rattle.graph_word.specs.jack_types.specs.declared.ports.Port.{Port}
use Rattle.graph_word.specs.jack_types.specs.declared.ports.Way.TheVariants.{In, Out}
use Rattle.graph_word.specs.jack_types.specs.declared.replies.Refusal.{Refusal}
use Rattle.graph_word.specs.session_model.specs.Commands.{after, refusal}
use Rattle.graph_word.specs.session_model.specs.Grammar.{IsTempo}
use Rattle.graph_word.specs.session_model.specs.Ids.{connections, open_ports}
use Rattle.graph_word.specs.session_model.specs.State.{Master, State, system_name}
use Rattle.tempo_map.specs.declared.tempos.Tempo.{Tempo}
use Rattle.feedback_edges.specs.connection_set.specs.Connections.{ConnectionSet}
use Rattle.feedback_edges.specs.Marking.{IsEndOf}
use Rattle.port_registry.specs.Answers.{AnswersExactly}
use Rattle.port_registry.specs.Registered.{IsRegistered, Registered, is_of, open_clients}

-- the clients and ports, the connections between the ports, the master and the timeout
pub record Network : Type 0 where
  pub held : Registered
  pub set : ConnectionSet
  pub master : Option Master
  pub timeout : Option ℕ

-- the same by names
abbrev pub state_of : Network → State
state_of network = record {
  clients = open_clients network.held.clients;
  ports = open_ports network.held.ports;
  edges = connections network.held.ports network.set.edges;
  master = network.master;
  timeout = network.timeout;
}

-- each edge goes from an output to an input of the list
pub record HaveEnds (ports : List Port) (edges : List Edge) : Type 0 where
  pub sources : (edge : Edge) → Contains edges edge → IsEndOf ports Out edge.source
  pub destinations : (edge : Edge) → Contains edges edge → IsEndOf ports In edge.destination

-- clients and ports are a registry's, of the device's ports there are no more than channels, edges join ports, and there is room for the most of each
pub record IsNetwork (network : Network) : Type 0 where
  pub registered : IsRegistered network.held
  pub few_device_ports : length (filter (is_of system_name) network.held.ports) ≤ 16
  pub ends : HaveEnds network.held.ports network.set.edges
  pub client_room : 65 ≤ network.held.client_room
  pub port_room : 2064 ≤ network.held.port_room
  pub edge_room : 512 ≤ network.set.room

-- a new master's numbers are a tempo
abbrev pub HasTempo : Command → Type 0
HasTempo (Timebase _ mbpm beats ticks) = IsTempo mbpm beats ticks
HasTempo (TimebaseIf _ mbpm beats ticks) = IsTempo mbpm beats ticks
HasTempo _ = ⊤

-- done exactly where nothing refuses, else the first refusal; the state is the one behind the command, and a refusal changes nothing
pub record IsApplied {T : Type 0} (before : Network) (number : ℕ) (command : Command) (result : Result T Refusal) (behind : Network) : Type 0 where
  pub answer : AnswersExactly (refusal (state_of before) command) result
  pub effect : state_of behind ≡ after (state_of before) number command
  pub same : OnErr result (behind ≡ before)

-- the numbers of a master
abbrev pub numbers_of : Option Master → Option (ℕ × ℕ × ℕ)
numbers_of master = option_map (λ (held : Master). (held.mbpm, held.beats, held.ticks)) master

-- and of a tempo
abbrev pub tempo_numbers : Option Tempo → Option (ℕ × ℕ × ℕ)
tempo_numbers tempo = option_map (λ (numbers : Tempo). (numbers.mbpm, numbers.beats, numbers.ticks)) tempo
