use Rattle.std.proofs.Common.{List, [], subst, sym}
use Rattle.disk_feeds.specs.declared.feed.Feed.{Feed}
use Rattle.disk_feeds.specs.Insides.{AreMade}
use Rattle.disk_feeds.proofs.OpeningLemmas.{made-more, made-none}
use Rattle.disk_feeds.proofs.making.make_feeds.Goals as goal

pub loop-count-init : goal.loop-count-init
loop-count-init c = subst (λ (feeds : List Feed). AreMade c.args.period [] feeds) (sym c.new-feeds.ensures.items) (made-none c.args.period)

pub loop-count-preserved : goal.loop-count-preserved
loop-count-preserved c =
    let new = c.in_ok-feed.ensures in
    rw c.in_ok-push.ensures.items
    (made-more c.args.period c.args.channels.now c.loop-count.feeds.items c.loop-count.count-index c.in_ok-feed.feed c.loop-count-test.true c.loop-count.invariant new.0 new.1 new.2 new.3)
