-- What the playback gets.
--     PlaybackRoom      what contracts see of a playback: its channels, its room in frames, and the block of the last mix
--     sound_in benches captured sound      the samples of a sound
--     sounds_on heard channel      the sounds of a channel, in the order of making
--     channel_mix frames benches captured heard channel      a channel of the playback
use Rattle.std.specs.Prelude.{ℕ, ◌==◌, List, [], filter, map, ℤ, slice_index_or}
use Rattle.jack_types.specs.declared.kinds.Kind.TheVariants.{Pass}
use Rattle.session_model.specs.Samples.{mix}
use Rattle.client_benches.specs.Seen.{Seen, new_bench}
use Rattle.client_wiring.specs.declared.joints.Heard.{Heard}
use Rattle.client_wiring.specs.declared.joints.Sound.{Sound}
use Rattle.client_wiring.specs.declared.joints.Sound.TheVariants.{Played, Captured}

pub record PlaybackRoom : Type 0 where
  pub channels : ℕ
  pub room : ℕ
  pub block : List ℤ

-- what an output of a bench gave when it was last played, or a channel of the period that was captured last; nothing where there is no such bench, output or channel
abbrev pub sound_in : List Seen → List (List ℤ) → Sound → List ℤ
sound_in benches captured (Played n j) = slice_index_or (slice_index_or benches n (new_bench Pass 0)).kept.audio j []
sound_in benches captured (Captured c) = slice_index_or captured c []

-- of the connections into a channel what they bring
abbrev pub sounds_on : List Heard → ℕ → List Sound
sounds_on heard channel = map (λ (one : Heard). one.sound) (filter (λ (one : Heard). one.channel == channel) heard)

-- the mix of what its connections bring; a part of another length than the period counts as far as both go
abbrev pub channel_mix : ℕ → List Seen → List (List ℤ) → List Heard → ℕ → List ℤ
channel_mix frames benches captured heard channel = mix frames (map (sound_in benches captured) (sounds_on heard channel))
