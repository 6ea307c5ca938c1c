use Rattle.std.proofs.Common.{◌≡◌, ◌≤◌, ℕ, [], length}
use Rattle.bench_rack.specs.Racks.{bench_at, wire_total}
use Rattle.client_tasks.specs.Fillings.{with_wires}
use Rattle.client_tasks.specs.Steps.{wires_from}
use Rattle.client_tasks.proofs.hearing.hear_all.Given as goal

abbrev pub invariant-loop-place : goal.invariant-loop-place
invariant-loop-place g l = record {
  wires : (p : ℕ) → bench_at l.rack p ≡ with_wires (wires_from (λ i. []) l.joints p l.place) (bench_at l.initial.rack p);
  room : wire_total l.rack ≤ l.place;
  lengths : length l.rack.benches ≡ length l.initial.rack.benches;
  links : l.rack.links ≡ l.initial.rack.links;
}
