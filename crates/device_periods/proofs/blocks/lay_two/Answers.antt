use Rattle.std.proofs.Common.{refl, [], ◌∷◌}
use Rattle.device_periods.proofs.PeriodLemmas.{laid_whole}
use Rattle.device_periods.proofs.blocks.lay_two.Goals as goal

pub returns-clause-whole : goal.returns-clause-whole
returns-clause-whole c = laid_whole c.args.frames 2 (c.args.left.now ∷ c.args.right.now ∷ []) c.lay_both.new.block c.lay_both.ensures.length refl c.lay_both.ensures.laid
