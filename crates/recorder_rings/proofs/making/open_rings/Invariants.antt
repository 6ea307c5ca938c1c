use Rattle.std.proofs.Common.{take}
use Rattle.recorder_rings.specs.Openings.{AreOpened}
use Rattle.recorder_rings.proofs.making.open_rings.Given as goal

abbrev pub invariant-loop-count : goal.invariant-loop-count
invariant-loop-count l = AreOpened l.capacity l.period (take l.count-index l.channels) l.rings.items l.out.items
