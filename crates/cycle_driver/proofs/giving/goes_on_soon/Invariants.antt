use Rattle.std.proofs.Common.{◌≡◌}
use Rattle.cycle_driver.proofs.giving.goes_on_soon.Given as goal

abbrev pub invariant-loop : goal.invariant-loop
invariant-loop g l = record {
  same : l.driver ≡ l.fn.driver;
}
