use Rattle.std.proofs.Common.{◌≡◌, ◌*◌, length, map}
use Rattle.session_model.specs.Samples.{below}
use Rattle.device_periods.specs.Blocks.{IsLaid}
use Rattle.playback_mix.specs.Mixes.{channel_mix}
use Rattle.playback_mix.proofs.channels.mix_channels.Given as goal

abbrev pub invariant-loop-channel : goal.invariant-loop-channel
invariant-loop-channel g l = record {
  laid : IsLaid l.channels l.frames (map (channel_mix l.frames l.benches l.capture.channels l.heard) (below l.channel)) l.block;
  long : length l.block ≡ l.frames * l.channels;
  room : l.mixer.room ≡ l.initial.mixer.room;
  padded : length l.padded ≡ length l.initial.padded;
  frames : length l.out ≡ l.frames;
}
