-- What the outgoing links of a bench carry.
--     route_of route      which output a connection carries
--     routes_on routes link      the connections of a link, in the order of making
--     carried_by frames outputs link routes      what they carry of these outputs
--     IsBelow count output, HasOutput count route      the output, where there is one, is one of so many
use Rattle.std.specs.Prelude.{ℕ, ◌<◌, ◌==◌, ⊤, List, [], ℤ, map, filter, Option, Some, None}
use Rattle.activation.specs.session_model.specs.Benches.{Route as Carrying, Signal, routed}
use Rattle.activation.specs.session_model.specs.Kinds.{no_memory}
use Rattle.client_benches.specs.declared.values.Route.{Route}

-- an audio output, if any: a bench gives no events
abbrev pub route_of : Route → Carrying
route_of route = record { audio = route.output; midi = None }

abbrev pub routes_on : List Route → ℕ → List Carrying
routes_on routes link = map route_of (filter (λ (route : Route). route.link == link) routes)

abbrev pub carried_by : ℕ → List (List ℤ) → ℕ → List Route → List Signal
carried_by frames outputs link routes = map (routed frames (record { audio = outputs; midi = []; memory = no_memory })) (routes_on routes link)

-- outputs are counted from 0
abbrev pub IsBelow : ℕ → Option ℕ → Type 0
IsBelow count (Some output) = output < count
IsBelow count None = ⊤

abbrev pub HasOutput : ℕ → Route → Type 0
HasOutput count route = IsBelow count route.output
