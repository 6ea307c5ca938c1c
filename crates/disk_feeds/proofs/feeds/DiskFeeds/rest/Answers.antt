use Rattle.std.specs.Prelude.{vec_capacity}
use Rattle.disk_feeds.proofs.OneLemmas.{rests-seen}
use Rattle.disk_feeds.proofs.feeds.DiskFeeds.rest.Goals as goal

pub returns : goal.returns
returns c =
    rests-seen c.args.cycle c.from.result c.args.disk c.self.inside.disks.items c.self.inside.out.items c.self.inside.feeds.items c.self.inside.underruns.items c.self.inside.period (vec_capacity c.self.inside.underruns)
    c.rest.new.self c.index_mut.result.now c.args.self.now c.self.view_is c.from.ensures c.self.invariant c.requires.there c.index_mut.ensures.value c.rest.ensures
