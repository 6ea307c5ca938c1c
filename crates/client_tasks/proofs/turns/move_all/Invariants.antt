use Rattle.std.proofs.Common.{◌≡◌, ◌≤◌, ◌<◌, ℕ, length}
use Rattle.bench_rack.specs.Racks.{bench_at, moved}
use Rattle.client_tasks.proofs.turns.move_all.Given as goal

abbrev pub invariant-loop-place : goal.invariant-loop-place
invariant-loop-place g l = record {
  moved : (n : ℕ) → n < l.place → bench_at l.rack n ≡ moved l.moment l.period (bench_at l.initial.rack n);
  others : (p : ℕ) → l.place ≤ p → bench_at l.rack p ≡ bench_at l.initial.rack p;
  lengths : length l.rack.benches ≡ length l.initial.rack.benches;
  links : l.rack.links ≡ l.initial.rack.links;
}
