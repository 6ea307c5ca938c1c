use Rattle.std.proofs.Common.{◌≡◌, ◌≤◌, ◌<◌, ℕ, length}
use Rattle.bench_rack.specs.Racks.{bench_at, begun}
use Rattle.client_tasks.specs.Tasks.{turn_of}
use Rattle.client_tasks.proofs.turns.begin_all.Given as goal

abbrev pub invariant-loop-node : goal.invariant-loop-node
invariant-loop-node g l = record {
  begun : (n : ℕ) → n < l.node → bench_at l.rack n ≡ begun (turn_of l.wiring l.links l.moment l.period n) (bench_at l.initial.rack n);
  others : (p : ℕ) → l.node ≤ p → bench_at l.rack p ≡ bench_at l.initial.rack p;
  lengths : length l.rack.benches ≡ length l.initial.rack.benches;
  links : l.rack.links ≡ l.initial.rack.links;
}
