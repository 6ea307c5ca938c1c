use Rattle.std.proofs.Common.{arith, rules, ◌∙◌}
use Rattle.std.proofs.lemmas.List.{length-set}
use Rattle.device_periods.proofs.PeriodLemmas.{pairs_more}
use Rattle.device_periods.proofs.blocks.lay_pairs.Goals as goal

pub loop-i-preserved : goal.loop-i-preserved
loop-i-preserved c = record {
  long = length-set _ _ _ ∙ (length-set c.loop-i.block _ _ ∙ c.loop-i.invariant.long);
  laid = pairs_more c.args.left.now c.args.right.now c.loop-i.block _ _ c.loop-i.i c.args.frames c.loop-i-test.true c.loop-i.invariant.long (search rules) (search rules) c.loop-i.invariant.laid;
}

pub returns-clause-laid : goal.returns-clause-laid
returns-clause-laid c = λ i channel low few. c.loop-i.invariant.laid i channel (omega (arith, low, c.loop-i-test.false)) few
