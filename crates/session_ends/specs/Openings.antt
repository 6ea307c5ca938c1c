-- The disk files that a session is opened with.
--     IsUnread wave      nothing was read of a file
--     AreDisks channels waves      those of disks of so many channels each
use Rattle.std.specs.Prelude.{◌≡◌, ℕ, false, List, map, All}
use Rattle.wave_pcm.specs.Readings.{IsReadable, Reading}

-- and no read failed
pub record IsUnread (wave : Reading) : Type 0 where
  pub readable : IsReadable wave.format
  pub given : wave.given ≡ 0
  pub going : wave.failed ≡ false

-- one for each disk, in order
pub record AreDisks (channels : List ℕ) (waves : List Reading) : Type 0 where
  pub channels_are : map (λ (wave : Reading). wave.format.channels) waves ≡ channels
  pub each : All IsUnread waves
