-- The fields of a playback, and what stays true of them. No public clause cites this module.
use Rattle.std.specs.Prelude.{◌≡◌, ◌*◌, ◌≤◌, length, take}
use Rattle.playback_mix.specs.Mixes.{PlaybackRoom}
use Rattle.playback_mix.specs.declared.block.Playback.TheInside.{Inside}

-- the block of the last mix lies in front of its room
abbrev pub room_in : Inside → PlaybackRoom
room_in p = record { channels = p.channels; room = p.room; block = take (p.frames * p.channels) p.block.items }

-- room for the longest period: of the sums, of a part, of a channel, and of all channels
pub record HasRoom (p : Inside) : Type 0 where
  pub most : p.room ≤ 4096
  pub few : p.channels ≤ 8
  pub within : p.frames ≤ p.room
  pub sums : p.room ≤ p.mixer.room
  pub silence : length p.padded.items ≡ p.room
  pub mixed : length p.channel.items ≡ p.room
  pub laid : length p.block.items ≡ p.room * p.channels
