use Rattle.std.proofs.Common.{◌≡◌, map, take}
use Rattle.std.specs.Prelude.{vec_capacity}
use Rattle.bench_crew.specs.client_benches.specs.Seen.{new_bench}
use Rattle.bench_rack.proofs.racks.make_benches.Given as goal

abbrev pub invariant-loop-kind : goal.invariant-loop-kind
invariant-loop-kind g l = record {
  capacity : vec_capacity l.benches ≡ vec_capacity l.initial.benches;
  benches : l.benches.items ≡ map (λ kind. new_bench kind l.fn.period) (take l.kind-index l.kinds);
}
