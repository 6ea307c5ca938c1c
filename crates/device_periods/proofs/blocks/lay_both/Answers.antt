use Rattle.std.proofs.Common.{arith, refl, [], ◌∷◌}
use Rattle.device_periods.proofs.blocks.lay_both.Goals as goal

pub returns-else-frames-left-clause-laid : goal.returns-else-frames-left-clause-laid
returns-else-frames-left-clause-laid c = c.lay_channel-else-frames-left.ensures.laid (c.args.left.now ∷ []) refl (c.lay_channel.ensures.laid [] refl (λ i channel low few. absurd (omega (arith, few))))
