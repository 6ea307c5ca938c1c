-- What the readers of a segment do, each in a thread of its own.
--     IsGoing playing, HaveFailed players      no read of its file failed, or that of one failed
--     ReadBy playing after      it read on, or a read failed
--     AreRead players after      so did each
use Rattle.std.specs.Prelude.{◌≡◌, ℕ, ◌<◌, ◌≤◌, true, false, List, get_or, length, slice_get, Some}
use Rattle.jack_host.specs.Causes.{Rose}
use Rattle.disk_player.specs.Playing.{Playing}
use Rattle.disk_serving.specs.Serving.{ReadsOff, ReadsOn}

pub record IsGoing (playing : Playing) : Type 0 where
  pub going : playing.failed ≡ false

pub record HaveFailed (players : List Playing) : Type 0 where
  pub place : ℕ
  pub player : Playing
  pub there : slice_get players place ≡ Some player
  pub failed : player.failed ≡ true

-- its file's count of faults never falls, and rose where a read failed
pub data ReadBy (playing after : Playing) : Type 0 where
  ReadOn : ReadsOn playing after → after.faults ≡ playing.faults → ReadBy playing after
  BrokeOff : ReadsOff playing after → playing.faults ≤ after.faults → Rose playing.faults after.faults → ReadBy playing after

pub record AreRead (players after : List Playing) : Type 0 where
  pub each : (k : ℕ) (d : Playing) → k < length players → ReadBy (get_or players k d) (get_or after k d)
