use Rattle.std.proofs.Common.{sym, arith}
use Rattle.cycle_blocks.proofs.LayLemmas.{sound-past}
use Rattle.cycle_blocks.proofs.laying.sound_of.Goals as goal

pub returns-else-place-len : goal.returns-else-place-len
returns-else-place-len g c = sym (sound-past c.args.rack.now c.args.place c.args.input (omega arith))
