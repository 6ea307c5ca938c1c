-- The cycle of a session before desk and driver meet behind it: with what leaves the recorders' rings and what goes into those of the disks. No public clause cites this module.
--     Plays most session after      the driver's cycle, with what went into the disks' rings before it
--     PlayFails most session after      the same, where it failed
--     Goes freewheel session after      the cycle, with what left the recorders' rings around it
--     Fails freewheel session after      the same, where it failed
use Rattle.std.specs.Prelude.{◌≡◌, ℕ, Bool, true}
use Rattle.driver_laws.specs.Cycling.{FailsAtRead, FailsAtWrite}
use Rattle.run_laws.specs.Sessions.{Session}
use Rattle.disk_runs.specs.Readings.{DisksBroke, DisksRead, DisksTold}
use Rattle.serial_laws.specs.Faults.{BreakUp, StaysOne}
use Rattle.serial_laws.specs.Steps.{Cycled, Emptied, GiveUp, most_blocks, most_filled}

pub record Plays (most : ℕ) (session after : Session) : Type 0 where
  pub read : Session
  pub cycled : Session
  pub reads : DisksRead most session read
  pub cycles : Cycled read cycled
  pub tells : DisksTold cycled after

pub data PlayFails (most : ℕ) (session after : Session) : Type 0 where
  InDisk : DisksBroke most session after → PlayFails most session after
  InRead : (read failed : Session) → DisksRead most session read → FailsAtRead read.driver failed.driver → failed ≡ record read { driver = failed.driver } → DisksTold failed after → PlayFails most session after
  InWrite : (read failed : Session) → DisksRead most session read → FailsAtWrite read.driver failed.driver → StaysOne read.driver failed.driver → failed ≡ record read { driver = failed.driver } → DisksTold failed after
      → PlayFails most session after

pub record Goes (freewheel : Bool) (session after : Session) : Type 0 where
  pub emptied : Session
  pub read : Session
  pub cycled : Session
  pub told : Session
  pub empties : Emptied freewheel session emptied
  pub reads : DisksRead (most_filled session.script.header freewheel) emptied read
  pub cycles : Cycled read cycled
  pub tells : DisksTold cycled told
  pub drains : GiveUp (most_blocks session.script.header freewheel) told after

pub data Fails (freewheel : Bool) (session after : Session) : Type 0 where
  AtEmptying : freewheel ≡ true → BreakUp session.script.header.ring session after → Fails freewheel session after
  AtDisk : (emptied : Session) → Emptied freewheel session emptied → DisksBroke (most_filled session.script.header freewheel) emptied after → Fails freewheel session after
  AtRead : (emptied read failed : Session) → Emptied freewheel session emptied → DisksRead (most_filled session.script.header freewheel) emptied read → FailsAtRead read.driver failed.driver
      → failed ≡ record read { driver = failed.driver } → DisksTold failed after → Fails freewheel session after
  AtWrite : (emptied read failed : Session) → Emptied freewheel session emptied → DisksRead (most_filled session.script.header freewheel) emptied read → FailsAtWrite read.driver failed.driver → StaysOne read.driver failed.driver
      → failed ≡ record read { driver = failed.driver } → DisksTold failed after → Fails freewheel session after
  AtDraining : (emptied read cycled told : Session) → Emptied freewheel session emptied → DisksRead (most_filled session.script.header freewheel) emptied read → Cycled read cycled → DisksTold cycled told
      → BreakUp (most_blocks session.script.header freewheel) told after → Fails freewheel session after
