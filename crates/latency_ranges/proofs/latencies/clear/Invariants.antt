use Rattle.std.proofs.Common.{◌≡◌, replicate, take}
use Rattle.session_model.specs.Latencies.{no_range}
use Rattle.latency_ranges.proofs.latencies.clear.Given as goal

abbrev pub invariant-loop-place : goal.invariant-loop-place
invariant-loop-place l = take l.place l.table ≡ replicate l.place no_range
