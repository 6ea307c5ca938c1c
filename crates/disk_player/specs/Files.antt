-- What was put of a disk file.
--     block_of_file file period i      a block of a file
--     HasPut file period sending      the ring has the first blocks of the file
--     PlaysFile file period playing      and the player goes on behind them
use Rattle.std.specs.Prelude.{◌≡◌, ℕ, ◌*◌, ◌<◌, ◌≤◌, true, List, [], ◌++◌, length, map, drop, ℤ, Some, None}
use Rattle.session_model.specs.Courses.{DiskFile, block_channel}
use Rattle.session_model.specs.Disks.{blocks_of}
use Rattle.session_model.specs.Samples.{below, interleaved}
use Rattle.driver_words.specs.Rings.{Sending}
use Rattle.disk_player.specs.Playing.{Playing, in_hand}
use Rattle.disk_player.specs.Turning.{samples_of}

-- a period of it, frame by frame, zeros past its end
abbrev pub block_of_file : DiskFile → ℕ → ℕ → List ℤ
block_of_file file period i = interleaved period (map (block_channel file period i) (below file.channels))

-- the end stands only behind all of them
pub record HasPut (file : DiskFile) (period : ℕ) (sending : Sending) : Type 0 where
  pub blocks : samples_of sending.put ≡ map (block_of_file file period) (below (length sending.put))
  pub within : length sending.put ≤ blocks_of file period
  pub whole : sending.ended ≡ true → length sending.put ≡ blocks_of file period

-- `read` blocks were read: those that were put, and the one that waits
pub record PlaysFile (file : DiskFile) (period : ℕ) (playing : Playing) : Type 0 where
  pub read : ℕ
  pub size : playing.sending.samples ≡ file.channels * period
  pub some : 0 < file.channels * period
  pub blocks : samples_of playing.sending.put ++ in_hand playing.waiting ≡ map (block_of_file file period) (below read)
  pub within : read ≤ blocks_of file period
  pub left : playing.left ≡ Some (drop (read * (file.channels * period)) file.samples)
  pub over : playing.over ≡ true → playing.left ≡ Some []
  pub ended : playing.sending.ended ≡ true → (playing.over ≡ true) × (playing.waiting ≡ None)
