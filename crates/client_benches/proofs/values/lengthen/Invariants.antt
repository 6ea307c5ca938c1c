use Rattle.std.proofs.Common.{◌≡◌, length}
use Rattle.std.specs.Prelude.{vec_capacity}
use Rattle.client_benches.proofs.values.lengthen.Given as goal

abbrev pub invariant-loop-place : goal.invariant-loop-place
invariant-loop-place l = record {
  long : length l.samples.items ≡ l.place;
  capacity : vec_capacity l.samples ≡ vec_capacity l.initial.samples;
}
