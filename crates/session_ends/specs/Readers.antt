-- The readers of a new session's disks. No public clause cites this module.
--     AreBlocks sizes blocks      blocks as they are made, of so many samples each
--     IsReader capacity period seen disk wave player      a reader of a file, over the end of the disk's ring that puts
--     AreReaders capacity period seen waves players      one for each file
use Rattle.std.specs.Prelude.{◌≡◌, ℕ, ◌*◌, ◌^◌, false, List, length, map, slice_get, None, Some}
use Rattle.record_ring.specs.declared.block.Block.{Block}
use Rattle.driver_words.specs.Feeding.{Fed, channels_at, disk_at}
use Rattle.driver_words.specs.Rings.{IsOpening}
use Rattle.wave_pcm.specs.Readings.{Reading}
use Rattle.session_works.specs.RunWords.{Playing}

pub record AreBlocks (sizes : List ℕ) (blocks : List Block) : Type 0 where
  pub whole : map (λ (block : Block). length block.samples.items) blocks ≡ sizes
  pub room : map (λ (block : Block). block.samples.room) blocks ≡ sizes

-- it read nothing, and the ring is new
pub record IsReader (capacity period : ℕ) (seen : Fed) (disk : ℕ) (wave : Reading) (player : Playing) : Type 0 where
  pub opening : IsOpening capacity (period * channels_at seen disk) (2 ^ 33) player.sending (disk_at seen disk)
  pub player_is : player ≡ record { format = wave.format; sending = player.sending; left = wave.left; waiting = None; over = false; failed = false; faults = wave.faults }

pub record AreReaders (capacity period : ℕ) (seen : Fed) (waves : List Reading) (players : List Playing) : Type 0 where
  pub as_many : length players ≡ length waves
  pub each : (disk : ℕ) (wave : Reading) (player : Playing) → slice_get waves disk ≡ Some wave → slice_get players disk ≡ Some player → IsReader capacity period seen disk wave player
