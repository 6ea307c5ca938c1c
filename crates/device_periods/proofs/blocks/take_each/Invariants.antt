use Rattle.std.proofs.Common.{◌≡◌, ◌+◌, ◌*◌, take, map}
use Rattle.wave_pcm.specs.session_model.specs.Samples.{below, sample}
use Rattle.device_periods.proofs.blocks.take_each.Given as goal

abbrev pub invariant-loop-i : goal.invariant-loop-i
invariant-loop-i l = take l.i l.channel ≡ map (λ i. sample l.block (i * l.channels + l.place)) (below l.i)
