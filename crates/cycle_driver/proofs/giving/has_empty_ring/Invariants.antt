use Rattle.std.proofs.Common.{◌≡◌}
use Rattle.cycle_driver.proofs.giving.has_empty_ring.Given as goal

abbrev pub invariant-loop-disk : goal.invariant-loop-disk
invariant-loop-disk g l = record {
  same : l.driver ≡ l.fn.driver;
}
