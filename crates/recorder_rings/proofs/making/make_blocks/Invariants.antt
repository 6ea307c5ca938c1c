use Rattle.std.proofs.Common.{◌≡◌, ◌*◌, take, map}
use Rattle.record_ring.specs.declared.block.Block.{Block}
use Rattle.recorder_rings.proofs.making.make_blocks.Given as goal

abbrev pub invariant-loop-count : goal.invariant-loop-count
invariant-loop-count l = map (λ (block : Block). block.samples.room) l.blocks.items ≡ map (λ count. l.period * count) (take l.count-index l.channels)
