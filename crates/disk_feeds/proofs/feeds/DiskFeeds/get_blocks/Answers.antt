use Rattle.std.proofs.Common.{ap, arith, length}
use Rattle.port_registry.specs.Registered.{open_clients}
use Rattle.driver_words.specs.Feeding.{Fed}
use Rattle.disk_feeds.proofs.AllLemmas.{got-all, got-next, got-none, may-next}
use Rattle.disk_feeds.proofs.feeds.DiskFeeds.get_blocks.Goals as goal

pub loop-disk-init : goal.loop-disk-init
loop-disk-init c = got-none (open_clients c.args.nodes.now) c.args.cycle c.args.self.now

pub get_for-requires : goal.get_for-requires
get_for-requires c = may-next (open_clients c.args.nodes.now) c.args.cycle c.args.self.now c.loop-disk.self c.loop-disk.disk (omega (arith, c.loop-disk-test.true, c.len-count.ensures, ap (λ (s : Fed). length s.disks) c.self.view_is)) c.requires c.loop-disk.invariant

pub loop-disk-preserved : goal.loop-disk-preserved
loop-disk-preserved c = got-next (open_clients c.args.nodes.now) c.args.cycle c.args.self.now c.loop-disk.self c.get_for.new.self c.loop-disk.disk c.loop-disk.invariant c.get_for.ensures

pub returns : goal.returns
returns c = got-all (open_clients c.args.nodes.now) c.args.cycle c.args.self.now c.loop-disk.self c.loop-disk.disk
    (omega (arith, c.loop-disk-test.false, c.loop-disk.auto.disk-end, c.len-count.ensures, ap (λ (s : Fed). length s.disks) c.self.view_is)) c.loop-disk.invariant
