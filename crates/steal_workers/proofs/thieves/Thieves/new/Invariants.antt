use Rattle.std.proofs.Common.{◌≡◌, ◌<◌, ◌≤◌, ℕ, [], None, get_or, All, vec_capacity, vec_len}
use Rattle.steal_workers.specs.declared.ends.Stealer.{Stealer}
use Rattle.steal_workers.specs.declared.places.Place.{Place}
use Rattle.steal_workers.specs.Tallies.{tally, every_part}
use Rattle.steal_workers.specs.Deques.{tally_of, LeadsTo}
use Rattle.steal_workers.proofs.thieves.Thieves.new.Given as goal

abbrev pub invariant-loop : goal.invariant-loop
invariant-loop g l = record {
  stealers : (vec_len l.stealers ≡ l.counter) × (l.count ≤ vec_capacity l.stealers);
  places : (vec_len l.places ≡ l.counter) × (l.count ≤ vec_capacity l.places);
  passes : (vec_len l.passes ≡ l.counter) × (l.count ≤ vec_capacity l.passes);
  reached : (k : ℕ) (x : Stealer) (y : Place g.row.B.Denot g.row.B-Value.Denot g.row.B-Memory.Denot) → k < l.counter → LeadsTo (get_or l.stealers.items k x) (get_or l.places.items k y).deque;
  at_rest : All (λ place. (tally_of place.deque ≡ tally every_part [] []) × (place.thief ≡ None)) l.places.items;
  room : All (λ row. (row.items ≡ []) × (l.count ≤ vec_capacity row)) l.passes.items;
}
