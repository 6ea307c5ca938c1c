use Rattle.std.proofs.Common.{◌≡◌, ◌≤◌, ◌<◌, ℕ, length}
use Rattle.bench_rack.specs.client_benches.specs.Seen.{rested}
use Rattle.bench_rack.specs.Racks.{bench_at}
use Rattle.client_tasks.proofs.turns.rest_all.Given as goal

abbrev pub invariant-loop-place : goal.invariant-loop-place
invariant-loop-place g l = record {
  rested : (p : ℕ) → p < l.place → bench_at l.rack p ≡ rested (bench_at l.initial.rack p);
  others : (p : ℕ) → l.place ≤ p → bench_at l.rack p ≡ bench_at l.initial.rack p;
  lengths : length l.rack.benches ≡ length l.initial.rack.benches;
  links : l.rack.links ≡ l.initial.rack.links;
}
