-- What the benches of a rack are set to do by a wiring.
--     first_like joints joint      where a node has a captured channel already
--     wires_of sources joints n      the wires of a node, where what was not handed over comes from these sources
--     routes_of carried n      its routes
--     turn_of wiring links moment period n      its turn
--     IsSet wiring links moment period sources n bench      a bench that is set so
--     HasRooms links rack      each bench has room at the places of its node's outgoing links
--     IsIdle bench      a bench without work
use Rattle.std.specs.Prelude.{◌≡◌, ℕ, ◌<◌, ◌==◌, Bool, List, filter, length, map, position, take, ℤ, Option, Some, None, slice_index_or, true, false}
use Rattle.jack_types.specs.declared.moments.Moment.{Moment}
use Rattle.jack_types.specs.declared.ports.Link.{Link}
use Rattle.session_model.specs.Activation.{link_at, outgoing, place_among}
use Rattle.session_model.specs.Samples.{below}
use Rattle.bench_rack.specs.client_benches.specs.Seen.{Seen, cleared, has_room_at}
use Rattle.bench_rack.specs.client_benches.specs.declared.benches.Stint.{Stint}
use Rattle.bench_rack.specs.client_benches.specs.declared.values.Route.{Route}
use Rattle.bench_rack.specs.client_benches.specs.declared.wires.Source.{Source}
use Rattle.bench_rack.specs.client_benches.specs.declared.wires.Source.TheVariants.{Carried as CarriedSource, Kept as KeptSource, Like}
use Rattle.bench_rack.specs.client_benches.specs.declared.wires.Wire.{Wire}
use Rattle.client_wiring.specs.Wirings.{Wired}
use Rattle.client_wiring.specs.declared.joints.Carried.{Carried}
use Rattle.client_wiring.specs.declared.joints.Joint.{Joint}
use Rattle.client_wiring.specs.declared.joints.Origin.{Origin}
use Rattle.client_wiring.specs.declared.joints.Origin.TheVariants.{Handed, Captured}
use Rattle.client_wiring.specs.declared.joints.Output.{Output}
use Rattle.client_wiring.specs.declared.joints.Output.TheVariants.{Audio, Midi}
use Rattle.client_wiring.specs.declared.joints.Widths.{Widths}
use Rattle.bench_rack.specs.Racks.{Racked, bench_at}

abbrev pub joint_at : List Joint → ℕ → Joint
joint_at joints i = slice_index_or joints i (record { node = 0; input = 0; origin = Captured 0 })

-- the same captured channel
abbrev pub is_same_channel : Origin → Origin → Bool
is_same_channel (Captured a) (Captured b) = a == b
is_same_channel _ _ = false

-- the place, among the wires of its node, of the first of these joints that brings the same captured channel to it
abbrev pub first_like : List Joint → Joint → Option ℕ
first_like joints joint = position (λ (other : Joint). is_same_channel other.origin joint.origin) (filter (λ (other : Joint). other.node == joint.node) joints)

-- what is handed over comes over its link; a captured channel that an earlier wire of the node brings comes from there; all else is samples that are known before the cycle
abbrev pub source_by : Option ℕ → List ℤ → Origin → Source
source_by (Some place) samples origin = Like place
source_by None samples (Handed link connection) = CarriedSource link connection
source_by None samples _ = KeptSource samples

abbrev pub wire_by : (ℕ → List ℤ) → List Joint → ℕ → Wire
wire_by sources joints i = record {
  input = (joint_at joints i).input;
  source = source_by (first_like (take i joints) (joint_at joints i)) (sources i) (joint_at joints i).origin;
}

-- one wire a joint of the node, in the order of making; joint i has its samples from source i
abbrev pub wires_of : (ℕ → List ℤ) → List Joint → ℕ → List Wire
wires_of sources joints n = map (wire_by sources joints) (filter (λ i. (joint_at joints i).node == n) (below (length joints)))

-- an audio output; a MIDI output carries no audio
abbrev pub audio_of : Output → Option ℕ
audio_of (Audio output) = Some output
audio_of (Midi output) = None

-- an output over an outgoing link
abbrev pub route_to : Carried → Route
route_to one = record { link = one.place; output = audio_of one.output }

abbrev pub routes_of : List Carried → ℕ → List Route
routes_of carried n = map route_to (filter (λ (one : Carried). one.node == n) carried)

abbrev pub widths_at : Wired → ℕ → Widths
widths_at wiring n = slice_index_or wiring.widths n (record { inputs = 0; outputs = 0 })

abbrev pub turn_of : Wired → List Link → Moment → ℕ → ℕ → Stint
turn_of wiring links moment period n = record {
  moment = moment;
  ports = record { inputs = (widths_at wiring n).inputs; outputs = (widths_at wiring n).outputs; period = period };
  links = length (outgoing links n);
}

pub record IsSet (wiring : Wired) (links : List Link) (moment : Moment) (period : ℕ) (sources : ℕ → List ℤ) (n : ℕ) (bench : Seen) : Type 0 where
  pub turn : bench.kept.turn ≡ Some (turn_of wiring links moment period n)
  pub wires : bench.kept.wires ≡ wires_of sources wiring.joints n
  pub routes : bench.kept.routes ≡ routes_of wiring.carried n

abbrev pub AreSet : Wired → List Link → Moment → ℕ → (ℕ → List ℤ) → ℕ → Racked → Type 0
AreSet wiring links moment period sources nodes rack = (n : ℕ) → n < nodes → IsSet wiring links moment period sources n (bench_at rack n)

-- by node of the link, not by place in a list of benches
abbrev pub HasRooms : List Link → Racked → Type 0
HasRooms links rack = (l : ℕ) → l < length links → has_room_at (bench_at rack (link_at links l).from) (place_among links l) ≡ true

abbrev pub IsIdle : Seen → Type 0
IsIdle bench = cleared bench ≡ bench
