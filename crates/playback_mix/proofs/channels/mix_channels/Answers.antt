use Rattle.std.proofs.Common.{ℕ, ◌∙◌, List, ℤ, length, ap, arith}
use Rattle.playback_mix.specs.Mixes.{channel_mix}
use Rattle.playback_mix.proofs.BlockLemmas.{laid-next, laid-all}
use Rattle.playback_mix.proofs.channels.mix_channels.Goals as goal

pub loop-channel-preserved : goal.loop-channel-preserved
loop-channel-preserved g c = record {
  laid = laid-next (length c.args.out.now) c.args.channels mixes c.loop-channel.channel c.mix_channel.new.out c.loop-channel.block c.lay_channel.new.block
      (c.mix_channel.ensures.mixed ∙ ap (λ (n : ℕ). channel_mix n c.args.benches.now c.args.capture.now.channels c.args.heard.now c.loop-channel.channel) c.loop-channel.invariant.frames)
      c.lay_channel.ensures.laid c.loop-channel.invariant.laid;
  long = c.lay_channel.ensures.length;
  room = c.mix_channel.ensures.room ∙ c.loop-channel.invariant.room;
  padded = c.mix_channel.ensures.frames ∙ c.loop-channel.invariant.padded;
  frames = omega (arith, c.mix_channel.auto.out, c.loop-channel.invariant.frames);
}
  where
    mixes : ℕ → List ℤ
    mixes = channel_mix (length c.args.out.now) c.args.benches.now c.args.capture.now.channels c.args.heard.now

pub returns-clause-block : goal.returns-clause-block
returns-clause-block g c =
    laid-all (length c.args.out.now) c.args.channels c.loop-channel.channel (channel_mix (length c.args.out.now) c.args.benches.now c.args.capture.now.channels c.args.heard.now)
    c.loop-channel.block c.loop-channel.invariant.long c.loop-channel-test.false c.loop-channel.invariant.laid
