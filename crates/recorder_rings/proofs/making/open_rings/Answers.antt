use Rattle.std.proofs.Common.{◌*◌, subst}
use Rattle.driver_words.specs.Rings.{IsOpening}
use Rattle.recorder_rings.proofs.OpeningLemmas.{opened-more}
use Rattle.recorder_rings.proofs.making.open_rings.Goals as goal

pub loop-count-preserved : goal.loop-count-preserved
loop-count-preserved c =
    rw c.in_ok-push.ensures.items (rw c.in_ok-push-2.ensures.items
    (opened-more c.args.capacity c.args.period c.args.channels.now c.loop-count.rings.items c.loop-count.out.items c.loop-count.count-index c.in_ok-producer.producer c.in_ok-producer.consumer c.loop-count-test.true c.loop-count.invariant
    (subst (λ n. IsOpening c.args.capacity (c.args.period * n) 500000000 c.in_ok-producer.producer c.in_ok-producer.consumer) c.from.ensures c.in_ok-producer.ensures)))
