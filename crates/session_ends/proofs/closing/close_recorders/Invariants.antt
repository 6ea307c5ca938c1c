use Rattle.std.proofs.Common.{◌≡◌, length}
use Rattle.session_ends.proofs.CloseLemmas.{ClosedUpTo}
use Rattle.session_works.proofs.RingLemmas.{AreEach}
use Rattle.session_ends.proofs.closing.close_recorders.Given as goal

abbrev pub invariant-loop-recorder : goal.invariant-loop-recorder
invariant-loop-recorder g l = record {
  each : AreEach (ClosedUpTo l.ring l.recorder) l.initial.works.driver.rings.rings l.initial.works.recorders.items l.works.driver.rings.rings l.works.recorders.items;
  desk : l.works.desk ≡ l.initial.works.desk;
  readers : l.works.readers.items ≡ l.initial.works.readers.items;
  driver : l.works.driver ≡ record l.initial.works.driver { rings = record l.initial.works.driver.rings { rings = l.works.driver.rings.rings } };
  end : l.recorder-end ≡ length l.initial.works.recorders.items;
}
