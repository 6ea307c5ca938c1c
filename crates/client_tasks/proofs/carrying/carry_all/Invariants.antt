use Rattle.std.proofs.Common.{◌≡◌, ℕ, length, take}
use Rattle.bench_rack.specs.Racks.{bench_at}
use Rattle.client_tasks.specs.Steps.{with_routes}
use Rattle.client_tasks.specs.Tasks.{routes_of}
use Rattle.client_tasks.proofs.carrying.carry_all.Given as goal

abbrev pub invariant-loop-place : goal.invariant-loop-place
invariant-loop-place g l = record {
  routes : (p : ℕ) → bench_at l.rack p ≡ with_routes (routes_of (take l.place l.carried) p) (bench_at l.initial.rack p);
  lengths : length l.rack.benches ≡ length l.initial.rack.benches;
  links : l.rack.links ≡ l.initial.rack.links;
}
