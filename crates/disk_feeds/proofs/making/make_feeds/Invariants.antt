use Rattle.std.proofs.Common.{take}
use Rattle.disk_feeds.specs.Insides.{AreMade}
use Rattle.disk_feeds.proofs.making.make_feeds.Given as goal

abbrev pub invariant-loop-count : goal.invariant-loop-count
invariant-loop-count l = AreMade l.period (take l.count-index l.channels) l.feeds.items
