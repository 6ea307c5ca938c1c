use Rattle.std.proofs.Common.{◌≡◌, ◌+◌, ◌≤◌, take, length, map}
use Rattle.client_benches.specs.Gathered.{AreGathered}
use Rattle.playback_mix.specs.Mixes.{sound_in, sounds_on}
use Rattle.playback_mix.proofs.channels.mix_channel.Given as goal

abbrev pub invariant-loop-one : goal.invariant-loop-one
invariant-loop-one g l = record {
  gathered : AreGathered (length l.padded) l.mixer l.few (map (sound_in l.benches l.capture.channels) (sounds_on (take l.one-index l.heard) l.channel));
  few : l.mixer.parts + length l.few ≤ l.one-index;
  long : length l.mixer.sums ≡ length l.padded;
  room : l.mixer.room ≡ l.initial.mixer.room;
  frames : length l.padded ≡ length l.initial.padded;
}
