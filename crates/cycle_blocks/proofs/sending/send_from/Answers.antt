use Rattle.recorder_rings.specs.Sending.{block_at, channels_at}
use Rattle.cycle_blocks.specs.Blocks.{heard_at}
use Rattle.cycle_blocks.proofs.SendLemmas.{may-put, sent-one}
use Rattle.cycle_blocks.proofs.sending.send_from.Goals as goal

pub put-requires : goal.put-requires
put-requires g c =
    may-put c.args.rings.now c.lay_block.new.rings c.args.period c.args.recorder (block_at c.lay_block.new.rings c.args.recorder) c.lay_block.ensures.others c.lay_block.ensures.length c.requires

pub returns : goal.returns
returns g c =
    sent-one (heard_at c.args.rack.now c.args.period (channels_at c.args.rings.now c.args.recorder) c.args.place) c.args.cycle c.args.recorder c.args.rings.now c.lay_block.new.rings c.put.new.self (block_at c.lay_block.new.rings c.args.recorder)
    c.lay_block.ensures.others c.lay_block.ensures.block c.put.ensures.at c.put.ensures.more c.put.ensures.counted c.put.ensures.others
