use Rattle.std.proofs.Common.{◌≡◌, ◌<◌, ◌≤◌, ℕ, List, [], ℤ, get_or, length, map}
use Rattle.bench_rack.specs.Racks.{bench_at}
use Rattle.client_tasks.specs.Fillings.{known_at, with_wires}
use Rattle.client_tasks.specs.Steps.{mixed, own_joints}
use Rattle.client_tasks.specs.Tasks.{wire_by, wires_of}
use Rattle.client_tasks.proofs.filling.fill_wires.Given as goal

abbrev pub invariant-loop-place : goal.invariant-loop-place
invariant-loop-place g l = record {
  size : length l.counts ≡ 64;
  so_far : (n : ℕ) → n < 64 → get_or l.counts n 0 ≡ length (own_joints l.joints n l.place);
  few : (n : ℕ) → n < 64 → get_or l.counts n 0 ≤ l.place;
  wires : (sources : ℕ → List ℤ) (n : ℕ) → (bench_at l.initial.rack n).kept.wires ≡ wires_of sources l.joints n
      → (bench_at l.rack n).kept.wires ≡ map (wire_by (mixed (known_at l.initial.rack l.capture.channels l.silence l.last l.joints) sources l.place) l.joints) (own_joints l.joints n (length l.joints));
  others : (p : ℕ) → with_wires [] (bench_at l.rack p) ≡ with_wires [] (bench_at l.initial.rack p);
  lengths : length l.rack.benches ≡ length l.initial.rack.benches;
  links : l.rack.links ≡ l.initial.rack.links;
}
