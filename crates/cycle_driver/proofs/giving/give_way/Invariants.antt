use Rattle.std.proofs.Common.{◌≡◌}
use Rattle.cycle_driver.proofs.giving.give_way.Given as goal

abbrev pub invariant-loop-turn : goal.invariant-loop-turn
invariant-loop-turn g l = record {
  same : l.driver ≡ l.fn.driver;
}
