-- A driver before its first cycle.
--     IsNew script scores driver      nothing was taken, put, got or played
use Rattle.std.specs.Prelude.{◌≡◌, ℕ, false, List, [], length, map, slice_get, All, None, Some}
use Rattle.record_ring.specs.session_model.specs.Kinds.{Sound}
use Rattle.record_ring.specs.session_model.specs.Scripts.{Script}
use Rattle.record_ring.specs.session_model.specs.Transport.{first_row}
use Rattle.record_ring.specs.driver_words.specs.Rings.{Sending, Getting}
use Rattle.driver_laws.specs.Drivers.{Driver, IsOwnDisk, IsOwnRing}

-- a recorder's ring that nothing was put into, of the script's capacity
pub record IsEmptyRing (capacity : ℕ) (ring : Sending) : Type 0 where
  pub put : ring.put ≡ []
  pub ended : ring.ended ≡ false
  pub capacity_is : ring.capacity ≡ capacity

-- a disk's ring that nothing was got from
pub record IsEmptyDisk (got : Getting) : Type 0 where
  pub blocks : got.got ≡ []
  pub told : got.told ≡ false
  pub done : got.done ≡ false

-- a ring for each recorder and each disk of the script, its first period, and nothing else
pub record IsNew (script : Script) (scores : List Sound) (driver : Driver) : Type 0 where
  pub script_is : driver.script ≡ script
  pub scores_are : driver.scores ≡ scores
  pub rows : driver.reading.rows ≡ []
  pub content : driver.content ≡ []
  pub numbers : driver.numbers ≡ []
  pub moments : driver.moments ≡ []
  pub transport : driver.transport ≡ first_row
  pub overruns : driver.overruns ≡ []
  pub underruns : driver.underruns ≡ []
  pub as_many : length driver.rings ≡ length script.header.recorders
  pub rings : All (IsEmptyRing script.header.ring) driver.rings
  pub own_rings : (recorder : ℕ) (ring : Sending) → slice_get driver.rings recorder ≡ Some ring → IsOwnRing driver recorder ring
  pub sent : driver.sent ≡ map (λ _. 0) script.header.recorders
  pub as_many_disks : length driver.disks ≡ length script.header.disks
  pub disks : All IsEmptyDisk driver.disks
  pub own_disks : (disk : ℕ) (got : Getting) → slice_get driver.disks disk ≡ Some got → IsOwnDisk driver disk got
  pub played : driver.played ≡ map (λ _. 0) script.header.disks
  pub playback : driver.playback ≡ None
  pub set : driver.set ≡ script.header.period
  pub failed : driver.failed ≡ false
  pub nodes : driver.nodes ≡ []
  pub memories : driver.memories ≡ []
