-- A crew of clients' benches between two cycles.
--     Ensembled      what contracts see of it
--     bench_of benches n      the bench of node n
--     AreReady id links nodes count seats      all seats of a crew, as new over some benches
--     HaveDeques count thieves      the thieves, if there are any, have a deque for each of so many seats
use Rattle.std.specs.Prelude.{◌≡◌, ℕ, List, length, slice_index_or, Option, IfSome}
use Rattle.atomic_table.specs.Seated.{TableId}
use Rattle.jack_types.specs.declared.kinds.Kind.TheVariants.{Pass}
use Rattle.jack_types.specs.declared.ports.Link.{Link}
use Rattle.client_benches.specs.activation.specs.declared.takens.Seat.{Seat}
use Rattle.client_benches.specs.activation.specs.Rounds.{AreSeats, AreFresh}
use Rattle.client_benches.specs.Seen.{Seen, new_bench}
use Rattle.steal_workers.specs.declared.tallies.Tally.{Tally}

-- how many nodes and how many seats it has
pub record Ensembled : Type 0 where
  pub nodes : ℕ
  pub seats : ℕ

-- past the last node there is a bench of nobody
abbrev pub bench_of : List Seen → ℕ → Seen
bench_of benches n = slice_index_or benches n (new_bench Pass 0)

-- no seat holds a node, and none was started since the benches came in
pub record AreReady {B Y M : Type 0} (id : TableId) (links : List Link) (nodes count : ℕ) (seats : List (Seat B Y M)) : Type 0 where
  pub are : AreSeats id links nodes count seats
  pub before : List B
  pub fresh : AreFresh links before count seats

abbrev pub HaveDeques : ℕ → Option (List Tally) → Type 0
HaveDeques count thieves = IfSome thieves (λ (tallies : List Tally). length tallies ≡ count)
