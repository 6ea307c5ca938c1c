use Rattle.std.proofs.Common.{take}
use Rattle.disk_feeds.specs.Openings.{AreOpened}
use Rattle.disk_feeds.proofs.making.open_rings.Given as goal

abbrev pub invariant-loop-count : goal.invariant-loop-count
invariant-loop-count l = AreOpened l.capacity l.period (take l.count-index l.channels) l.disks.items l.out.items
