-- What contracts see of a graph's latencies.
--     latency_told state mode port      the range of the port of this name, if there is one
--     HasShortDelays state      no client is late by more frames than a script can say
use Rattle.std.specs.Prelude.{ℕ, ◌≤◌, List, All, Option}
use Rattle.std.specs.Option.{option_map}
use Rattle.jack_types.specs.declared.ports.Client.{Client}
use Rattle.jack_types.specs.declared.ports.Delay.{Delay}
use Rattle.jack_types.specs.declared.ports.Mode.{Mode}
use Rattle.jack_types.specs.declared.ports.Node.TheVariants.{Client as ClientNode}
use Rattle.jack_types.specs.declared.ports.Range.{Range}
use Rattle.session_model.specs.Latencies.{delay_of_kind, latency}
use Rattle.session_model.specs.State.{OpenClient, OpenPort, State, port_named}

-- the range of the port of this name, if there is one
abbrev pub latency_told : State → Mode → List ℕ → Option Range
latency_told state mode name = option_map (λ (port : OpenPort). latency state mode name) (port_named state name)

-- a `delay` client is at most 4,096 frames late
abbrev pub HasShortDelays : State → Type 0
HasShortDelays state = All (λ (client : OpenClient). delay_of_kind client.kind ≤ 4096) state.clients

-- a client's delay, at its node
abbrev pub delay_of : Client → Delay
delay_of client = record { node = ClientNode client.id; frames = delay_of_kind client.kind }
