-- What contracts see of a rack.
--     Racked      its benches, and how many rooms there are for links
--     bench_at rack place      the bench at a place
--     with_bench rack place bench      the rack with another bench there
--     wire_total rack, link_total rack      how many rooms its benches have for connections, and for links
--     heard_kept, heard_carried, heard_like, carrying, begun, linked, moved, filled, fed_with      a bench with one connection, task, room, moment, content or block more
use Rattle.std.specs.Prelude.{ℕ, List, Option, [], ◌∷◌, ◌++◌, ℤ, Some, option_map, slice_index_or, slice_set, sum_by}
use Rattle.jack_types.specs.declared.kinds.Kind.TheVariants.{Pass}
use Rattle.jack_types.specs.declared.moments.Moment.{Moment}
use Rattle.bench_crew.specs.client_benches.specs.Seen.{Seen, moved_to, new_bench, room_count}
use Rattle.bench_crew.specs.client_benches.specs.Wires.{kept_count, with_samples}
use Rattle.bench_crew.specs.client_kinds.specs.Buffers.{channels_of}
use Rattle.bench_crew.specs.client_benches.specs.declared.benches.Stint.{Stint}
use Rattle.bench_crew.specs.client_benches.specs.declared.wires.Source.TheVariants.{Carried, Kept, Like}

pub record Racked : Type 0 where
  pub benches : List Seen
  pub links : ℕ

-- a bench of nobody past the last place
abbrev pub bench_at : Racked → ℕ → Seen
bench_at rack place = slice_index_or rack.benches place (new_bench Pass 0)

abbrev pub with_bench : Racked → ℕ → Seen → Racked
with_bench rack place bench = record rack { benches = slice_set rack.benches place bench }

-- rooms of connections whose source does not play in the cycle
abbrev pub wire_total : Racked → ℕ
wire_total rack = sum_by (λ (bench : Seen). kept_count bench.kept.wires) rack.benches

abbrev pub link_total : Racked → ℕ
link_total rack = sum_by room_count rack.benches

abbrev pub begun : Stint → Seen → Seen
begun turn bench = record bench { kept = record bench.kept { turn = Some turn } }

-- a connection into an input that brings nothing yet
abbrev pub heard_kept : ℕ → Seen → Seen
heard_kept input bench = record bench { kept = record bench.kept { wires = bench.kept.wires ++ record { input = input; source = Kept [] } ∷ [] } }

-- a connection of an incoming link into an input
abbrev pub heard_carried : ℕ → ℕ → ℕ → Seen → Seen
heard_carried input link connection bench =
    record bench { kept = record bench.kept { wires = bench.kept.wires ++ record { input = input; source = Carried link connection } ∷ [] } }

-- a connection into an input that brings what another wire brings by itself
abbrev pub heard_like : ℕ → ℕ → Seen → Seen
heard_like input wire bench = record bench { kept = record bench.kept { wires = bench.kept.wires ++ record { input = input; source = Like wire } ∷ [] } }

-- a connection that carries an output over an outgoing link, or no audio
abbrev pub carrying : ℕ → Option ℕ → Seen → Seen
carrying link output bench = record bench { kept = record bench.kept { routes = bench.kept.routes ++ record { link = link; output = output } ∷ [] } }

-- a room at a place of an outgoing link, with nothing in it
abbrev pub linked : ℕ → Seen → Seen
linked place bench = record bench { rooms = slice_set bench.rooms place (Some []) }

abbrev pub moved : Moment → ℕ → Seen → Seen
moved moment period bench = record bench { kept = record bench.kept { turn = option_map (moved_to moment period) bench.kept.turn } }

-- these samples in the room of a wire, if it has one
abbrev pub filled : ℕ → List ℤ → Seen → Seen
filled wire samples bench = record bench { kept = record bench.kept { wires = with_samples bench.kept.wires wire samples } }

-- an interleaved block of so many channels for the next cycle, in the place of the one before
abbrev pub fed_with : ℕ → List ℤ → Seen → Seen
fed_with channels samples bench =
    record bench { kept = record bench.kept { standing = record bench.kept.standing { memory = record bench.kept.standing.memory { fed = channels_of channels bench.kept.standing.period samples } } } }
