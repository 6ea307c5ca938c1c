-- What stands behind a segment in threads mode that failed.
--     Drove many kept session after      what the driver's thread did: all cycles, or some, and one that failed
--     ReelEnds, ServedSome      each recorder's file got all blocks of its ring, or a write failed
--     WheelFailed kept session after      a freewheel segment in which a cycle failed
--     ThreadFault done many freewheel kept session after      a whole phase that failed
--     StandsUnfinished kept session given      what the files in the making tell
use Rattle.std.specs.Prelude.{◌≡◌, ℕ, ◌+◌, ◌≤◌, ◌<◌, Bool, true, false, List, length, slice_get, Option, Some}
use Rattle.session_model.specs.Explanations.{Given}
use Rattle.session_model.specs.Playback.{playback_format}
use Rattle.session_model.specs.Recorders.{recorder_format}
use Rattle.driver_words.specs.Tapes.{HasUnfinished}
use Rattle.disk_recorder.specs.Recordings.{Fails}
use Rattle.session_model.specs.Rings.{samples_of_blocks}
use Rattle.driver_laws.specs.Cycling.{FailsAtRead, FailsAtWrite}
use Rattle.driver_laws.specs.Drivers.{overruns_on, run}
use Rattle.driver_laws.specs.Keeping.{kept_blocks, played_so_far}
use Rattle.recorder_files.specs.Recorders.{Reel}
use Rattle.run_laws.specs.Sessions.{Session, course_in}
use Rattle.serial_laws.specs.Faults.{BreakUp, StaysOne}
use Rattle.serial_laws.specs.Steps.{Cycled, GiveUp, IsReel, Met}
use Rattle.disk_runs.specs.Readings.{DisksBroke, DisksRead, DisksServed, DisksTold}
use Rattle.thread_laws.specs.Segments.{CycledMany, Grouped, Paced, Renewed, RingsEnded, ServesReel, WentOn, WheeledMany}

-- what the driver's thread did of so many cycles: all; or fewer, and the next failed. `kept` cycles were really played: one that failed at the capture was not, and of one that failed at the playback a front was
pub data Drove (many kept : ℕ) (session after : Session) : Type 0 where
  DroveAll : kept ≡ run after.driver → CycledMany many session after → Drove many kept session after
  AtCapture : (whole : ℕ) (before : Session) → whole < many → kept ≡ run before.driver → CycledMany whole session before → FailsAtRead before.driver after.driver → after ≡ record before { driver = after.driver } → Drove many kept session after
  AtPlayback : (whole : ℕ) (before : Session) → whole < many → kept ≡ run after.driver → CycledMany whole session before → FailsAtWrite before.driver after.driver → StaysOne before.driver after.driver
      → after ≡ record before { driver = after.driver } → Drove many kept session after

-- all blocks up to the end went from the ring to the file, or a write failed
pub data ReelEnds (before after : Reel) : Type 0 where
  Got : ServesReel before after → ReelEnds before after
  Torn : Fails before.getting before.tape after.getting after.tape → ReelEnds before after

-- so it is with each recorder, and the producers know nothing of it
pub record ServedSome (session after : Session) : Type 0 where
  pub each : (recorder : ℕ) (reel reel_after : Reel) → IsReel session recorder reel → IsReel after recorder reel_after → ReelEnds reel reel_after
  pub getting : length after.getting ≡ length session.getting
  pub tapes : length after.tapes ≡ length session.tapes
  pub counts : length after.counts ≡ length session.counts
  pub same : after ≡ record session { getting = after.getting; tapes = after.tapes; counts = after.counts }

-- a freewheel cycle that failed: where the recorders' rings were emptied before it, where a disk was read, in the cycle, or where the rings were emptied behind it
pub data WheelFailed (kept : ℕ) (session after : Session) : Type 0 where
  AtEmptying : kept ≡ run session.driver → BreakUp session.script.header.ring session after → WheelFailed kept session after
  AtWheelDisk : (emptied : Session) → kept ≡ run session.driver → GiveUp session.script.header.ring session emptied → DisksBroke session.script.header.ring emptied after → WheelFailed kept session after
  AtWheelCapture : (emptied read failed : Session) → kept ≡ run session.driver → GiveUp session.script.header.ring session emptied → DisksRead session.script.header.ring emptied read → FailsAtRead read.driver failed.driver
      → failed ≡ record read { driver = failed.driver } → DisksTold failed after → WheelFailed kept session after
  AtWheelPlayback : (emptied read failed : Session) → kept ≡ run after.driver → GiveUp session.script.header.ring session emptied → DisksRead session.script.header.ring emptied read → FailsAtWrite read.driver failed.driver
      → StaysOne read.driver failed.driver → failed ≡ record read { driver = failed.driver } → DisksTold failed after → WheelFailed kept session after
  AtDraining : (emptied read cycled told : Session) → kept ≡ run cycled.driver → GiveUp session.script.header.ring session emptied → DisksRead session.script.header.ring emptied read → Cycled read cycled → DisksTold cycled told
      → BreakUp session.script.header.ring told after → WheelFailed kept session after

-- what stands behind the join of a segment that failed: where a disk could not be read before a `run` segment, no cycle was played; else the rings ended in each case, so each recorder's thread came to its end, and each reader read on or broke
pub data JoinFailed (many : ℕ) (freewheel : Bool) (kept : ℕ) (session after : Session) : Type 0 where
  InFilling : freewheel ≡ false → kept ≡ run session.driver → DisksBroke session.script.header.ring session after → JoinFailed many freewheel kept session after
  InRun : (filled driven ended served : Session) → freewheel ≡ false → DisksRead session.script.header.ring session filled → Drove many kept filled driven → RingsEnded driven ended → ServedSome ended served → DisksServed served after
      → JoinFailed many freewheel kept session after
  InWheel : (whole : ℕ) (wheeled : Session) → freewheel ≡ true → whole < many → WheeledMany whole session wheeled → WheelFailed kept wheeled after → JoinFailed many freewheel kept session after

-- a phase that failed: its front, and a meeting; the join; the desk comes back, the recorders' rings are renewed, both ends of the disks' tell how far they are, and desk and driver meet once more. The lanes do not go on
pub record ThreadFault (done many : ℕ) (freewheel : Bool) (kept : ℕ) (session after : Session) : Type 0 where
  pub grouped : Session
  pub met : Session
  pub paced : Session
  pub served : Session
  pub gone : Session
  pub renewed : Session
  pub told : Session
  pub groups : Grouped done session grouped
  pub meets : Met grouped met
  pub paces : Paced met paced
  pub joins : JoinFailed many freewheel kept paced served
  pub goes : WentOn served gone
  pub renews : Renewed gone renewed
  pub tells : DisksTold renewed told
  pub meets_again : Met told after

-- behind a fault of the run no file is finished: those that tell hold a front of what the `kept` cycles gave that were really played, by the session's own lists, and no more
pub record StandsUnfinished (kept : ℕ) (session : Session) (given : Given) : Type 0 where
  pub low : kept ≤ run session.driver
  pub near : run session.driver ≤ kept + 1
  pub playback : HasUnfinished (playback_format (course_in given session)) (played_so_far (course_in given session) kept) session.playback_file
  pub records : (recorder : ℕ) (file : Option (List ℕ)) → slice_get session.record_files recorder ≡ Some file
      → HasUnfinished (recorder_format (course_in given session) recorder) (samples_of_blocks (kept_blocks (course_in given session) (overruns_on session.driver.overruns recorder) recorder kept)) file
