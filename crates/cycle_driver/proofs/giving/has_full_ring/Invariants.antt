use Rattle.std.proofs.Common.{◌≡◌}
use Rattle.cycle_driver.proofs.giving.has_full_ring.Given as goal

abbrev pub invariant-loop-recorder : goal.invariant-loop-recorder
invariant-loop-recorder g l = record {
  same : l.driver ≡ l.fn.driver;
}
