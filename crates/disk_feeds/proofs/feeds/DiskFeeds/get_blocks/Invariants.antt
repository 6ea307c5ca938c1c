use Rattle.port_registry.specs.Registered.{open_clients}
use Rattle.disk_feeds.specs.Steps.{GetsFirst}
use Rattle.disk_feeds.proofs.feeds.DiskFeeds.get_blocks.Given as goal

abbrev pub invariant-loop-disk : goal.invariant-loop-disk
invariant-loop-disk l = GetsFirst (open_clients l.nodes) l.cycle l.disk l.fn.self l.self
