-- What a cycle of a serial session leaves that failed.
--     BreakUp most session after      the rings gave up blocks until a file failed
--     StaysOne driver after      one playback file
--     TurnFails freewheel session after      the cycle that failed, by the place of the fault
--     told session      the session with what its files in the making tell
--     serial_course_of given      the one computation over the history of serial mode
--     StandsInSerial given session      what the stores tell that hold fronts of the files of that
use Rattle.std.specs.Prelude.{◌≡◌, ℕ, Bool, true, List, length, map, slice_get, Option, None, Some}
use Rattle.session_model.specs.Courses.{Course}
use Rattle.session_model.specs.Explanations.{Given, course_of}
use Rattle.session_model.specs.Playback.{played_back, playback_format}
use Rattle.session_model.specs.Recorders.{recorded, recorder_format}
use Rattle.session_model.specs.Serial.{serial_overruns, serial_printed}
use Rattle.driver_words.specs.Tapes.{HasFront, SameFile, Tape}
use Rattle.run_laws.specs.driver_laws.specs.Cycling.{FailsAtRead, FailsAtWrite}
use Rattle.run_laws.specs.driver_laws.specs.Drivers.{Driver}
use Rattle.recorder_files.specs.Recorders.{BreaksOff, GivesUp, Reel}
use Rattle.run_laws.specs.Sessions.{Session}
use Rattle.disk_runs.specs.Readings.{DisksBroke, DisksRead, DisksTold}
use Rattle.serial_laws.specs.Steps.{Cycled, Emptied, IsReel, Met, most_blocks, most_filled}

-- a recorder's ring gave up blocks, or its file failed, or it was left alone behind a failure
pub data Tried (most : ℕ) (before after : Reel) : Type 0 where
  Gave : GivesUp most before after → Tried most before after
  Broke : BreaksOff before after → Tried most before after
  Left : after ≡ before → Tried most before after

pub record BreakUp (most : ℕ) (session after : Session) : Type 0 where
  pub each : (recorder : ℕ) (reel reel_after : Reel) → IsReel session recorder reel → IsReel after recorder reel_after → Tried most reel reel_after
  pub rings : length after.driver.rings ≡ length session.driver.rings
  pub getting : length after.getting ≡ length session.getting
  pub tapes : length after.tapes ≡ length session.tapes
  pub counts : length after.counts ≡ length session.counts
  pub same : after ≡ record session { driver = record session.driver { rings = after.driver.rings }; getting = after.getting; tapes = after.tapes; counts = after.counts }

-- the playback's file is the same one
abbrev pub StaysOne : Driver → Driver → Type 0
StaysOne driver after = (tape tape_after : Tape) → driver.playback ≡ Some tape → after.playback ≡ Some tape_after → SameFile tape tape_after

-- whatever failed, both ends of each disk's ring tell how far they are, and desk and driver meet once more, so that the last row is known to be of the desk's own list
pub data TurnFails (freewheel : Bool) (session after : Session) : Type 0 where
  AtEmptying : (broken : Session) → freewheel ≡ true → BreakUp session.script.header.ring session broken → Met broken after → TurnFails freewheel session after
  AtDisk : (emptied broken : Session) → Emptied freewheel session emptied → DisksBroke (most_filled session.script.header freewheel) emptied broken → Met broken after → TurnFails freewheel session after
  AtRead : (emptied read failed told : Session) → Emptied freewheel session emptied → DisksRead (most_filled session.script.header freewheel) emptied read → FailsAtRead read.driver failed.driver
      → failed ≡ record read { driver = failed.driver } → DisksTold failed told → Met told after → TurnFails freewheel session after
  AtWrite : (emptied read failed told : Session) → Emptied freewheel session emptied → DisksRead (most_filled session.script.header freewheel) emptied read → FailsAtWrite read.driver failed.driver → StaysOne read.driver failed.driver
      → failed ≡ record read { driver = failed.driver } → DisksTold failed told → Met told after → TurnFails freewheel session after
  AtDraining : (emptied read cycled told broken : Session) → Emptied freewheel session emptied → DisksRead (most_filled session.script.header freewheel) emptied read → Cycled read cycled → DisksTold cycled told
      → BreakUp (most_blocks session.script.header freewheel) told broken → Met broken after → TurnFails freewheel session after

-- what a file in the making tells
abbrev pub bytes_in : Option Tape → Option (List ℕ)
bytes_in None = None
bytes_in (Some tape) = tape.bytes

abbrev pub told : Session → Session
told session = record session { playback_file = bytes_in session.driver.playback; record_files = map (λ (tape : Tape). tape.bytes) session.tapes }

abbrev pub serial_course_of : Given → Course
serial_course_of given = course_of given (serial_printed given)

-- a store that tells holds a front of the playback, or of a recorder's file
abbrev pub playback_front : Given → Option (List ℕ) → Type 0
playback_front given = HasFront (playback_format (serial_course_of given)) (played_back (serial_course_of given))

abbrev pub record_front : Given → ℕ → Option (List ℕ) → Type 0
record_front given recorder = HasFront (recorder_format (serial_course_of given) recorder) (recorded (serial_course_of given) (serial_overruns given.script recorder) recorder)

pub record StandsInSerial (given : Given) (session : Session) : Type 0 where
  pub playback : playback_front given session.playback_file
  pub records : (recorder : ℕ) (file : Option (List ℕ)) → slice_get session.record_files recorder ≡ Some file → record_front given recorder file
