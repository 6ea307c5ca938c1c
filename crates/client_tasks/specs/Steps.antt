-- Inside: how benches are set step by step. No public clause cites this module.
--     count_out links n k      how many of the first links go out from a node
--     wires_from sources joints n k      the wires of a node, of the first joints
--     with_routes routes bench      a bench with these routes
--     heard like joint bench, routed one bench      a bench with one connection more
--     IsSmall joint      what a wire can say
--     IsNarrow output      a route has room for its number
--     IsAmong count output      an audio output is one of so many
--     IsOutput benches one      what a route can say
--     mixed known sources k i      where a joint has its samples from, when the first are filled
--     with_samples_of rack node wire samples origin      what lies in the room of a wire
use Rattle.std.specs.Prelude.{ℕ, ◌<◌, ◌^◌, ◌==◌, List, [], ◌∷◌, ◌++◌, count_by, filter, map, nat_lt, ℤ, ⊤, Option, if◌then◌else◌}
use Rattle.std.specs.Option.{ForSome}
use Rattle.jack_types.specs.declared.ports.Link.{Link}
use Rattle.session_model.specs.Activation.{link_at}
use Rattle.session_model.specs.Samples.{below}
use Rattle.bench_rack.specs.client_benches.specs.Seen.{Seen}
use Rattle.bench_rack.specs.client_benches.specs.declared.benches.Stint.{Stint}
use Rattle.bench_rack.specs.client_benches.specs.declared.values.Route.{Route}
use Rattle.bench_rack.specs.client_benches.specs.declared.wires.Wire.{Wire}
use Rattle.client_wiring.specs.declared.joints.Carried.{Carried}
use Rattle.client_wiring.specs.declared.joints.Joint.{Joint}
use Rattle.client_wiring.specs.declared.joints.Origin.{Origin}
use Rattle.client_wiring.specs.declared.joints.Origin.TheVariants.{Handed}
use Rattle.client_wiring.specs.declared.joints.Output.{Output}
use Rattle.client_wiring.specs.declared.joints.Output.TheVariants.{Audio, Midi}
use Rattle.bench_rack.specs.Racks.{Racked, bench_at, filled, with_bench}
use Rattle.client_tasks.specs.Fillings.{with_wires}
use Rattle.client_tasks.specs.Tasks.{joint_at, route_to, source_by, wire_by}

abbrev pub count_out : List Link → ℕ → ℕ → ℕ
count_out links n k = count_by (λ l. (link_at links l).from == n) (below k)

-- the first joints of a node, by their places
abbrev pub own_joints : List Joint → ℕ → ℕ → List ℕ
own_joints joints n k = filter (λ i. (joint_at joints i).node == n) (below k)

abbrev pub wires_from : (ℕ → List ℤ) → List Joint → ℕ → ℕ → List Wire
wires_from sources joints n k = map (wire_by sources joints) (own_joints joints n k)

abbrev pub with_routes : List Route → Seen → Seen
with_routes routes bench = record bench { kept = record bench.kept { routes = routes } }

-- a joint's wire, which brings nothing yet by itself
abbrev pub heard : Option ℕ → Joint → Seen → Seen
heard like joint bench = with_wires (bench.kept.wires ++ record { input = joint.input; source = source_by like [] joint.origin } ∷ []) bench

-- a carried output's route
abbrev pub routed : Carried → Seen → Seen
routed one bench = with_routes (bench.kept.routes ++ route_to one ∷ []) bench

-- numbers that a wire has room for
abbrev pub IsSmallOrigin : Origin → Type 0
IsSmallOrigin (Handed link connection) = (link < 2 ^ 32) × (connection < 2 ^ 32)
IsSmallOrigin _ = ⊤

abbrev pub IsSmall : Joint → Type 0
IsSmall joint = (joint.input < 2 ^ 16) × IsSmallOrigin joint.origin

abbrev pub IsNarrow : Output → Type 0
IsNarrow (Audio output) = output < 2 ^ 16
IsNarrow (Midi output) = ⊤

-- an audio output is one of so many
abbrev pub IsAmong : ℕ → Output → Type 0
IsAmong count (Audio output) = (output < 2 ^ 16) × (output < count)
IsAmong count (Midi output) = ⊤

-- an audio output is one of the client's
abbrev pub IsOneOf : Option Stint → Output → Type 0
IsOneOf turn (Audio output) = (output < 2 ^ 16) × ForSome turn (λ (now : Stint). output < now.ports.outputs)
IsOneOf turn (Midi output) = ⊤

abbrev pub IsOutput : Racked → Carried → Type 0
IsOutput rack one = (one.place < 2 ^ 32) × IsOneOf (bench_at rack one.node).kept.turn one.output

-- where the first joints have their samples from what is known, and the others from where they had it
abbrev pub mixed : (ℕ → List ℤ) → (ℕ → List ℤ) → ℕ → ℕ → List ℤ
mixed known sources k i = if nat_lt i k then known i else sources i

-- samples in the room of a wire, where it has one
abbrev pub with_samples_of : Racked → ℕ → ℕ → List ℤ → Origin → Racked
with_samples_of rack node wire samples (Handed link connection) = rack
with_samples_of rack node wire samples _ = with_bench rack node (filled wire samples (bench_at rack node))
