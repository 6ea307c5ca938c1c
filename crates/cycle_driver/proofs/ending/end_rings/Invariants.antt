use Rattle.std.proofs.Common.{◌≡◌}
use Rattle.cycle_driver.proofs.EndLemmas.{ended_to}
use Rattle.cycle_driver.proofs.ending.end_rings.Given as goal

abbrev pub invariant-loop-recorder : goal.invariant-loop-recorder
invariant-loop-recorder g l = record {
  ended : l.driver ≡ record l.fn.driver { rings = record l.fn.driver.rings { rings = ended_to l.recorder l.fn.driver.rings.rings } };
}
