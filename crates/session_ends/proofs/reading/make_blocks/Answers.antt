use Rattle.std.proofs.Common.{List, ◌*◌, ◌∙◌, [], ap, length, subst, sym}
use Rattle.std.proofs.lemmas.List.{length-replicate}
use Rattle.record_ring.specs.declared.block.Block.{Block}
use Rattle.session_ends.specs.Readers.{AreBlocks}
use Rattle.session_ends.proofs.ReaderLemmas.{blocks-more, blocks-none, sizes}
use Rattle.session_ends.proofs.reading.make_blocks.Goals as goal

pub loop-count-init : goal.loop-count-init
loop-count-init c = subst (λ (blocks : List Block). AreBlocks (sizes c.args.period []) blocks) (sym c.new-blocks.ensures.items) (blocks-none c.args.period)

pub loop-count-preserved : goal.loop-count-preserved
loop-count-preserved c =
    let new = c.in_ok-block.ensures in
    let size = ap (λ n. c.args.period * n) c.from.ensures in
    rw c.in_ok-push.ensures.items
    (blocks-more c.args.period c.args.channels.now c.loop-count.blocks.items c.loop-count.count-index c.in_ok-block.block c.loop-count-test.true c.loop-count.invariant (ap length new.1 ∙ length-replicate _ _ ∙ size) (new.2 ∙ size))
