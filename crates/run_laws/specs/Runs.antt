-- Where the run of a session is between its segments.
--     RanPhases session done      so many phases were run
--     HasFiles session      the files in the making
--     AtPhase session given done      both, with what was given and the rings
use Rattle.std.specs.Prelude.{◌≡◌, ℕ, ◌≤◌, true, false, List, length, map, take, slice_get, All, IfSome, Some, IsSome}
use Rattle.std.specs.List.Sorted.{IsNonDecreasing}
use Rattle.jack_types.specs.declared.replies.Entry.{Entry}
use Rattle.jack_types.specs.declared.replies.Overrun.{Overrun}
use Rattle.jack_types.specs.declared.replies.Underrun.{Underrun}
use Rattle.session_model.specs.Courses.{Course, disk_file}
use Rattle.session_model.specs.Disks.{IsBehindRing, file_blocks}
use Rattle.session_model.specs.Explanations.{Given}
use Rattle.session_model.specs.Histories.{IsWithinPhase}
use Rattle.session_model.specs.Recorders.{IsAfterSegment}
use Rattle.session_model.specs.Rings.{RingBlock, samples_of_blocks}
use Rattle.session_model.specs.Samples.{below}
use Rattle.session_model.specs.Scripts.{Script, ScriptCycle, turns}
use Rattle.driver_words.specs.Rings.{Sending, Getting}
use Rattle.driver_words.specs.Tapes.{Tape, HasSamples}
use Rattle.disk_recorder.specs.Recordings.{MayWrite}
use Rattle.disk_player.specs.Files.{PlaysFile}
use Rattle.disk_player.specs.Playing.{Playing}
use Rattle.serial_lanes.specs.control_desk.specs.Desks.{IsDone}
use Rattle.driver_laws.specs.Drivers.{HasPlayback, overruns_on, run, turn_of, underruns_on}
use Rattle.driver_laws.specs.Keeping.{Fits, file_block}
use Rattle.driver_laws.specs.Segments.{cycles_before}
use Rattle.run_laws.specs.Sessions.{IsMet, IsOne, IsOver, KeepsGiven, Session}

-- each cycle's number lies within the bounds of its phase
abbrev pub AreWithin : Script → List Entry → List ℕ → Type 0
AreWithin script history numbers = (k number : ℕ) (turn : ScriptCycle) → slice_get numbers k ≡ Some number → slice_get (turns script) k ≡ Some turn → IsWithinPhase script history turn number

-- overruns and underruns came in `run` cycles alone
pub record MissesInRun (session : Session) : Type 0 where
  pub overruns : All (λ (overrun : Overrun). (turn_of session.script overrun.cycle).is_freewheel ≡ false) session.driver.overruns
  pub underruns : All (λ (underrun : Underrun). (turn_of session.script underrun.cycle).is_freewheel ≡ false) session.driver.underruns

-- so many phases were begun, no lane has a call left, and their cycles were run, with numbers that never fall, each within its bounds
pub record RanPhases (session : Session) (done : ℕ) : Type 0 where
  pub one : IsOne session
  pub phase : session.desk.phase ≡ done
  pub used : (lane : ℕ) → lane ≤ 4 → IsDone session.desk lane
  pub cycles : run session.driver ≡ cycles_before session.script done
  pub met : IsMet session
  pub rising : IsNonDecreasing session.driver.numbers
  pub within : AreWithin session.script session.desk.history session.driver.numbers
  pub misses : MissesInRun session

-- nothing failed; the playback's file is of the script's format, and so is each recorder's, which has the samples of all blocks got, as many as were counted
pub record HasFiles (session : Session) : Type 0 where
  pub playback : HasPlayback session.driver
  pub playback_format : IfSome session.driver.playback (λ (tape : Tape). tape.format ≡ record { rate = session.script.header.rate; channels = session.script.header.playback; bits = session.script.header.bits })
  pub sound : session.driver.failed ≡ false
  pub formats : map (λ (tape : Tape). tape.format) session.tapes ≡ session.script.header.recorders
  pub may : (recorder : ℕ) (got : Getting) (tape : Tape) → slice_get session.getting recorder ≡ Some got → slice_get session.tapes recorder ≡ Some tape → MayWrite got tape
  pub samples : (recorder : ℕ) (got : Getting) (tape : Tape) → slice_get session.getting recorder ≡ Some got → slice_get session.tapes recorder ≡ Some tape → HasSamples tape (samples_of_blocks got.got)
  pub counted : map (λ (got : Getting). length got.got) session.getting ≡ session.counts

-- threads mode, between segments: a recorder's ring is empty, both ends know it, and each overrun came behind what was kept when its segment began
pub record RingAtRest (given : Given) (session : Session) (recorder : ℕ) (ring : Sending) (got : Getting) : Type 0 where
  pub all_got : got.got ≡ ring.put
  pub looks : ring.least ≡ length ring.put
  pub finds : got.least ≡ length ring.put
  pub open_ended : ring.ended ≡ false
  pub behind : (course : Course) → IsOver given course → Fits session.driver course
      → All (IsAfterSegment course (overruns_on session.driver.overruns recorder) recorder) (overruns_on session.driver.overruns recorder)

-- what was put into a disk's ring is a front of its file's blocks, and all of them where the end stands
pub record PutsFile (given : Given) (disk : ℕ) (ring : Sending) : Type 0 where
  pub blocks : (course : Course) → IsOver given course → map (λ (one : RingBlock). one.samples) ring.put ≡ map (file_block course disk) (below (length ring.put))
  pub within : (course : Course) → IsOver given course → length ring.put ≤ file_blocks course disk
  pub whole : (course : Course) → IsOver given course → ring.ended ≡ true → length ring.put ≡ file_blocks course disk

-- what was got is a front of that, and both ends know it
pub record DiskAtRest (given : Given) (disk : ℕ) (ring : Sending) (got : Getting) : Type 0 where
  pub file : PutsFile given disk ring
  pub front : got.got ≡ take (length got.got) ring.put
  pub over : got.done ≡ true → (got.got ≡ ring.put) × (ring.ended ≡ true)
  pub looks : ring.least ≡ length got.got
  pub finds : got.least ≡ length ring.put
  pub told : got.told ≡ ring.ended

-- the rings of all disks are so
abbrev pub DisksAtRest : Given → Session → Type 0
DisksAtRest given session =
    (disk : ℕ) (player : Playing) (got : Getting) → slice_get session.players disk ≡ Some player → slice_get session.driver.disks disk ≡ Some got → DiskAtRest given disk player.sending got

-- each player goes on with its disk's file, in blocks of the script's period
abbrev pub PlaysAll : Given → Session → Type 0
PlaysAll given session =
    (course : Course) → IsOver given course → (disk : ℕ) (player : Playing) → slice_get session.players disk ≡ Some player → PlaysFile (disk_file course disk) course.script.header.period player

-- threads mode: each underrun of a disk found all played that was put when its segment began
abbrev pub MissesBehindRing : Given → Session → ℕ → Type 0
MissesBehindRing given session disk =
    (course : Course) → IsOver given course → Fits session.driver course → All (IsBehindRing course disk) (underruns_on session.driver.underruns disk)

-- between two segments, in each mode
pub record AtPhase (session : Session) (given : Given) (done : ℕ) : Type 0 where
  pub ran : RanPhases session done
  pub given_kept : KeepsGiven given session
  pub files : HasFiles session
  pub rings : IsSome session.script.header.threads → (recorder : ℕ) (ring : Sending) (got : Getting) → slice_get session.driver.rings recorder ≡ Some ring → slice_get session.getting recorder ≡ Some got → RingAtRest given session recorder ring got
  pub plays : PlaysAll given session
  pub disks : DisksAtRest given session
  pub misses : IsSome session.script.header.threads → (disk : ℕ) → MissesBehindRing given session disk
