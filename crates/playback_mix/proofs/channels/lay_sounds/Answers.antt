use Rattle.std.proofs.Common.{◌∙◌}
use Rattle.playback_mix.specs.Mixes.{channel_mix}
use Rattle.playback_mix.proofs.BlockLemmas.{laid-pair}
use Rattle.playback_mix.proofs.channels.lay_sounds.Goals as goal

pub returns-clause-laid : goal.returns-clause-laid
returns-clause-laid g c = λ _.
    laid-pair c.args.frames c.in-Some.left.now c.in-Some-only_sound.right.now (channel_mix c.args.frames c.args.benches.now c.args.capture.now.channels c.args.heard.now) c.lay_two.new.block
    c.see_samples.ensures c.see_samples-2.ensures (c.in-Some.ensures c.args.frames) (c.in-Some-only_sound.ensures c.args.frames) (c.lay_two.auto.block ∙ c.requires) c.lay_two.ensures.laid
