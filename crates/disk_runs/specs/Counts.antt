-- Serial mode's disks, counted.
--     IsSerialSoFar given driver      what the driver took is what serial mode takes
--     TurnsDisks given session after      a cycle, and what the disks' rings do around it
use Rattle.std.specs.Prelude.{◌≡◌, suc, take, All}
use Rattle.session_model.specs.Explanations.{Given}
use Rattle.session_model.specs.Histories.{accepted}
use Rattle.session_model.specs.Serial.{course_before, serial_history, serial_numbers}
use Rattle.graph_word.specs.declared.view.TakenRow.{TakenRow}
use Rattle.graph_word.specs.Publications.{IsFront}
use Rattle.disk_turns.specs.Standing.{most_read}
use Rattle.driver_laws.specs.Cycling.{StepsOnce}
use Rattle.driver_laws.specs.Drivers.{Driver, run}
use Rattle.run_laws.specs.Sessions.{Session}
use Rattle.disk_runs.specs.Readings.{DisksRead, DisksTold}

-- numbers and rows are those of serial mode
pub record IsSerialSoFar (given : Given) (driver : Driver) : Type 0 where
  pub numbers : driver.numbers ≡ take (run driver) (serial_numbers given.script)
  pub rows : All (λ (row : TakenRow). IsFront row.changes (accepted (serial_history given.script))) driver.reading.rows

-- the readers read on, the driver ran one cycle, and the ends of the rings met; the recorders' blocks may leave their rings before it and behind it
pub record TurnsDisks (given : Given) (session after : Session) : Type 0 where
  pub read : Session
  pub cycled : Session
  pub reads : DisksRead (most_read (course_before given) (suc (run session.driver))) session read
  pub steps : StepsOnce read.driver cycled.driver
  pub same : cycled ≡ record read { driver = cycled.driver }
  pub tells : DisksTold cycled after
