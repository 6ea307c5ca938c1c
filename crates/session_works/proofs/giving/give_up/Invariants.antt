use Rattle.std.proofs.Common.{◌≡◌}
use Rattle.session_works.proofs.RingLemmas.{AreEach, GivenUpTo}
use Rattle.session_works.proofs.giving.give_up.Given as goal

abbrev pub invariant-loop-recorder : goal.invariant-loop-recorder
invariant-loop-recorder g l = record {
  given : AreEach (GivenUpTo l.most l.recorder) l.fn.driver.rings.rings l.fn.recorders.items l.driver.rings.rings l.recorders.items;
  driver : l.driver ≡ record l.fn.driver { rings = record l.fn.driver.rings { rings = l.driver.rings.rings } };
}
