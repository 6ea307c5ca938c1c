use Rattle.std.proofs.Common.{◌≡◌, ◌≤◌, ◌<◌, ℕ, All, length}
use Rattle.std.specs.Prelude.{nat_lt}
use Rattle.jack_types.specs.declared.ports.Link.{Link}
use Rattle.bench_rack.specs.client_benches.specs.Seen.{has_room_at}
use Rattle.bench_rack.specs.Racks.{bench_at, link_total}
use Rattle.client_tasks.specs.Steps.{count_out}
use Rattle.client_tasks.proofs.carrying.link_all.Given as goal

abbrev pub invariant-loop-place : goal.invariant-loop-place
invariant-loop-place g l = record {
  rooms : (n p : ℕ) → has_room_at (bench_at l.rack n) p ≡ nat_lt p (count_out l.links n l.place);
  long : (n : ℕ) → length (bench_at l.rack n).rooms ≡ 64;
  kept : (p : ℕ) → (bench_at l.rack p).kept ≡ (bench_at l.initial.rack p).kept;
  others : (count p : ℕ) → All (λ (link : Link). link.from < count) l.links → count ≤ p → bench_at l.rack p ≡ bench_at l.initial.rack p;
  total : link_total l.rack ≤ l.place;
  lengths : length l.rack.benches ≡ length l.initial.rack.benches;
  links : l.rack.links ≡ l.initial.rack.links;
}
