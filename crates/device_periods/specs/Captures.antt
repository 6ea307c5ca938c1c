-- What contracts see of a capture that is read by periods.
--     Captured      the file that is read, the room in frames, and the channels of the period that was read last
--     AreOf count frames channels      so many channels of so many frames
--     Reads left left_after channels count frames      the next frames were read
use Rattle.std.specs.Prelude.{◌≡◌, ℕ, ◌*◌, ◌<◌, All, List, drop, length, ℤ, ⊤, Option, Some, None}
use Rattle.client_kinds.specs.Buffers.{channels_of}
use Rattle.wave_pcm.specs.session_model.specs.Samples.{sample}
use Rattle.wave_pcm.specs.Readings.{Reading}

pub record Captured : Type 0 where
  pub reading : Reading
  pub room : ℕ
  pub channels : List (List ℤ)

-- so many channels, each of so many frames
pub record AreOf (count frames : ℕ) (channels : List (List ℤ)) : Type 0 where
  pub count_is : length channels ≡ count
  pub frames_are : All (λ (channel : List ℤ). length channel ≡ frames) channels

-- the block has the next samples left, with zeros past their end, and they are left no more
abbrev pub Fills : Option (List ℤ) → Option (List ℤ) → List ℤ → Type 0
Fills None after block = ⊤
Fills (Some left) after block = ((i : ℕ) → i < length block → sample block i ≡ sample left i) × (after ≡ Some (drop (length block) left))

-- the channels are those of the samples left, with zeros past their end, and that many frames are left no more
abbrev pub Reads : Option (List ℤ) → Option (List ℤ) → List (List ℤ) → ℕ → ℕ → Type 0
Reads None after channels count frames = ⊤
Reads (Some left) after channels count frames = (channels ≡ channels_of count frames left) × (after ≡ Some (drop (frames * count) left))
