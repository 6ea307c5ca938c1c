use Rattle.std.proofs.Common.{◌≡◌}
use Rattle.session_threads.proofs.RenewLemmas.{RenewedUpTo}
use Rattle.session_works.proofs.RingLemmas.{AreEach}
use Rattle.session_threads.proofs.rings.renew_rings.Given as goal

abbrev pub invariant-loop-recorder : goal.invariant-loop-recorder
invariant-loop-recorder g l = record {
  renewed : AreEach (RenewedUpTo l.recorder) l.fn.driver.rings.rings l.fn.recorders.items l.driver.rings.rings l.recorders.items;
  driver : l.driver ≡ record l.fn.driver { rings = record l.fn.driver.rings { rings = l.driver.rings.rings } };
}
