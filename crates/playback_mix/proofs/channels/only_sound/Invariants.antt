use Rattle.std.proofs.Common.{map, take}
use Rattle.playback_mix.specs.Mixes.{sound_in, sounds_on}
use Rattle.playback_mix.proofs.OnlyLemmas.{IsOnly}
use Rattle.playback_mix.proofs.channels.only_sound.Given as goal

abbrev pub invariant-loop-one : goal.invariant-loop-one
invariant-loop-one g l = IsOnly l.only (map (sound_in l.benches l.capture.channels) (sounds_on (take l.one-index l.heard) l.channel))
