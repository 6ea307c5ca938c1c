use Rattle.std.proofs.Common.{take}
use Rattle.session_ends.specs.Readers.{AreBlocks}
use Rattle.session_ends.proofs.ReaderLemmas.{sizes}
use Rattle.session_ends.proofs.reading.make_blocks.Given as goal

abbrev pub invariant-loop-count : goal.invariant-loop-count
invariant-loop-count l = AreBlocks (sizes l.period (take l.count-index l.channels)) l.blocks.items
