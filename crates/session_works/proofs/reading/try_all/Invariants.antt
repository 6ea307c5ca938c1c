use Rattle.session_works.specs.DiskSteps.{DisksMoved}
use Rattle.session_works.proofs.DiskLemmas.{HasTried}
use Rattle.session_works.proofs.reading.try_all.Given as goal

abbrev pub invariant-loop-disk : goal.invariant-loop-disk
invariant-loop-disk g l = record {
  tried : HasTried l.most l.goes l.went l.disk l.fn.driver.disks.disks l.fn.readers.items l.driver.disks.disks l.readers.items;
  driver : DisksMoved l.fn.driver l.driver;
}
