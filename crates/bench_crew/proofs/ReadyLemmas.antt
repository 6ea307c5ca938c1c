-- Seats that are as new know their benches, and none started a node.
use Rattle.std.proofs.Common.{◌≡◌, ℕ, List, ap, sym, subst}
use Rattle.atomic_table.specs.Seated.{TableId}
use Rattle.jack_types.specs.declared.ports.Link.{Link}
use Rattle.client_benches.specs.activation.specs.declared.takens.Seat.{Seat}
use Rattle.client_benches.specs.activation.specs.Rounds.{AreSeats, AreFresh, AreUnused, Know}
use Rattle.bench_crew.specs.Ensembles.{AreReady}

module _ {B Y M : Type 0} where
  pub unused-fresh : (links : List Link) (before : List B) (count : ℕ) (seats : List (Seat B Y M)) → AreFresh links before count seats → AreUnused seats
  unused-fresh links before count seats fresh k d low = ap (λ e. e.started) (fresh k d low)

  pub known-fresh : (links : List Link) (before : List B) (count : ℕ) (seats : List (Seat B Y M)) → AreFresh links before count seats → Know before seats
  known-fresh links before count seats fresh k d low = ap (λ e. e.before) (fresh k d low)

  -- what a crew was made of or set to, in the words of its own fields
  pub ready-of : (id : TableId) (links own_links : List Link) (nodes own_nodes count own_count : ℕ) (before : List B) (seats : List (Seat B Y M)) → own_links ≡ links → own_nodes ≡ nodes → own_count ≡ count
      → AreSeats id links nodes count seats → AreFresh links before count seats → AreReady id own_links own_nodes own_count seats
  ready-of id links own_links nodes own_nodes count own_count before seats same_links same_nodes same_count are fresh = record {
    are = subst (λ (z : List Link × ℕ × ℕ). AreSeats id z.0 z.1 z.2 seats) (λ i. (sym same_links i, sym same_nodes i, sym same_count i)) are;
    before = before;
    fresh = subst (λ (z : List Link × ℕ). AreFresh z.0 before z.1 seats) (λ i. (sym same_links i, sym same_count i)) fresh;
  }
