use Rattle.std.proofs.Common.{◌≡◌, length, take}
use Rattle.plan_transport.specs.Slowness.{slow_of}
use Rattle.plan_transport.proofs.slowness.read_slow.Given as goal

abbrev pub invariant-loop-index : goal.invariant-loop-index
invariant-loop-index l = record {
  size : length l.slow ≡ 65;
  so_far : take l.index l.slow ≡ slow_of (take l.index l.clients);
}
