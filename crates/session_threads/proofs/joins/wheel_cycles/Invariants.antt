use Rattle.std.proofs.Common.{◌≡◌, ◌+◌, ◌≤◌}
use Rattle.session_works.specs.DeskWords.{Desk}
use Rattle.session_works.specs.Drivers.{driver_of}
use Rattle.driver_laws.specs.Drivers.{run}
use Rattle.session_works.specs.SerialWords.{IsSettled}
use Rattle.thread_laws.specs.Segments.{WheeledMany}
use Rattle.session_works.specs.Insides.{ArePaired, DisksPaired, Stays, beside, parts_with, seen_with}
use Rattle.session_threads.proofs.joins.wheel_cycles.Given as goal

abbrev pub invariant-loop : goal.invariant-loop
invariant-loop g l = record {
  wheeled : (desk : Desk) → IsSettled (seen_with g.G.Guest.sound (beside desk l.fn.readers.items) l.fn.driver l.fn.recorders.items) → WheeledMany l.counter (seen_with g.G.Guest.sound (beside desk l.fn.readers.items) l.fn.driver l.fn.recorders.items) (seen_with g.G.Guest.sound (beside desk l.readers.items) l.driver l.recorders.items);
  settled : (desk : Desk) → IsSettled (seen_with g.G.Guest.sound (beside desk l.fn.readers.items) l.fn.driver l.fn.recorders.items) → IsSettled (seen_with g.G.Guest.sound (beside desk l.readers.items) l.driver l.recorders.items);
  stays : (desk : Desk) → Stays g.G.Guest.sound (parts_with (beside desk l.fn.readers.items) l.fn.driver l.fn.recorders.items) (parts_with (beside desk l.readers.items) l.driver l.recorders.items);
  count : run (driver_of g.G.Guest.sound l.driver) ≡ run (driver_of g.G.Guest.sound l.fn.driver) + l.counter;
  within : l.counter ≤ l.cycles;
  set : l.driver.set ≡ l.fn.driver.set;
  pairs : ArePaired l.fn.driver l.fn.recorders.items → ArePaired l.driver l.recorders.items;
  disks : DisksPaired l.fn.driver l.fn.readers.items → DisksPaired l.driver l.readers.items;
  table : l.driver.reading.table ≡ l.fn.driver.reading.table;
}
