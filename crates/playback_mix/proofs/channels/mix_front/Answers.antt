use Rattle.std.proofs.Common.{ℕ, ◌*◌, ◌∙◌, map, ap, arith}
use Rattle.std.proofs.lemmas.List.{length-take-le}
use Rattle.session_model.specs.Samples.{below, interleaved}
use Rattle.device_periods.proofs.PeriodLemmas.{take_seam}
use Rattle.playback_mix.specs.Mixes.{channel_mix}
use Rattle.playback_mix.proofs.channels.mix_front.Goals as goal

pub returns-clause-block : goal.returns-clause-block
returns-clause-block g c =
    take_seam (c.args.frames * c.args.channels) c.mix_channels.new.block _ (omega (arith, c.mix_channels.auto.block, length-take-le (c.args.frames * c.args.channels) c.args.block.now c.requires.block))
    ∙ c.mix_channels.ensures.block
    ∙ ap (λ (n : ℕ). interleaved n (map (channel_mix n c.args.benches.now c.args.capture.now.channels c.args.heard.now) (below c.args.channels))) (length-take-le c.args.frames c.args.out.now c.requires.frames.1)
