use Rattle.std.proofs.Common.{◌∷◌, [], sym, append-nil, refl}
use Rattle.std.specs.Prelude.{vec_capacity}
use Rattle.disk_feeds.proofs.OneLemmas.{got-seen}
use Rattle.disk_feeds.proofs.feeds.DiskFeeds.get.Goals as goal

pub returns-in-Some : goal.returns-in-Some
returns-in-Some c =
    got-seen c.args.cycle c.from-place.result c.args.disk c.self.inside.disks.items c.self.inside.out.items c.self.inside.feeds.items c.self.inside.underruns.items c.push_reserved.new.self.items (c.in-Some.underrun ∷ [])
    c.self.inside.period (vec_capacity c.self.inside.underruns) (vec_capacity c.push_reserved.new.self) c.get_block-missed.new.ring c.index_mut.result.now c.get_block-missed.new.feed c.index_mut-2.result.now c.args.self.now
    c.self.view_is c.from-place.ensures c.push_reserved.ensures.items c.push_reserved.ensures.capacity c.self.invariant c.requires.there c.index_mut.ensures.value c.index_mut-2.ensures.value
    c.in-Some.ensures.gets c.get_block-missed.ensures.feeds c.get_block-missed.ensures.few

pub returns-in_default : goal.returns-in_default
returns-in_default c =
    got-seen c.args.cycle c.from-place.result c.args.disk c.self.inside.disks.items c.self.inside.out.items c.self.inside.feeds.items c.self.inside.underruns.items c.self.inside.underruns.items []
    c.self.inside.period (vec_capacity c.self.inside.underruns) (vec_capacity c.self.inside.underruns) c.get_block-missed.new.ring c.index_mut.result.now c.get_block-missed.new.feed c.index_mut-2.result.now c.args.self.now
    c.self.view_is c.from-place.ensures (sym (append-nil c.self.inside.underruns.items)) refl c.self.invariant c.requires.there c.index_mut.ensures.value c.index_mut-2.ensures.value
    c.in_default.ensures.gets c.get_block-missed.ensures.feeds c.get_block-missed.ensures.few
