-- Where the run of a session in serial mode is.
--     SerialAt session done cycles rounds      behind so many phases, so many cycles of the next, and so many rounds of its lanes
--     SerialBehind session done      between two segments
--     DiskSerial, DisksSerial      the counts and the underruns of disks, between two cycles
--     SerialKept given session      what is kept of what was given
use Rattle.std.specs.Prelude.{◌≡◌, ℕ, ◌+◌, false, List, length, take, slice_get, All, Some, IsNone}
use Rattle.jack_types.specs.declared.replies.Overrun.{Overrun}
use Rattle.session_model.specs.Disks.{got_one, missed_up_to, turned_before}
use Rattle.session_model.specs.Explanations.{Given}
use Rattle.session_model.specs.Histories.{accepted}
use Rattle.session_model.specs.Serial.{Counts, counts, course_before, serial_course, serial_history, serial_numbers}
use Rattle.graph_word.specs.declared.view.TakenRow.{TakenRow}
use Rattle.graph_word.specs.Publications.{IsFront}
use Rattle.driver_words.specs.Rings.{Sending, Getting}
use Rattle.disk_player.specs.Playing.{Playing}
use Rattle.disk_turns.specs.Standing.{StandsAt}
use Rattle.driver_laws.specs.Drivers.{overruns_on, run, underruns_on}
use Rattle.driver_laws.specs.Segments.{cycles_before}
use Rattle.serial_lanes.specs.Lanes.{BehindPhases, SerialDesk}
use Rattle.run_laws.specs.Sessions.{IsDisk, IsFor, IsMet, IsOne, KeepsAny, Session}
use Rattle.run_laws.specs.Runs.{HasFiles, MissesInRun, PlaysAll}

-- the numbers and the rows are those of serial mode so far; desk and driver met, and nothing failed
pub record SerialSoFar (session : Session) : Type 0 where
  pub one : IsOne session
  pub serial : IsNone session.script.header.threads
  pub numbers : session.driver.numbers ≡ take (run session.driver) (serial_numbers session.script)
  pub rows : All (λ (row : TakenRow). IsFront row.changes (accepted (serial_history session.script))) session.driver.reading.rows
  pub met : IsMet session
  pub misses : MissesInRun session
  pub files : HasFiles session

-- in a segment, before one of its cycles or behind the last
pub record SerialAt (session : Session) (done cycles rounds : ℕ) : Type 0 where
  pub so_far : SerialSoFar session
  pub desk : SerialDesk session.desk done rounds
  pub cycles_are : run session.driver ≡ cycles_before session.script done + cycles

-- between two segments
pub record SerialBehind (session : Session) (done : ℕ) : Type 0 where
  pub so_far : SerialSoFar session
  pub desk : BehindPhases session.desk done
  pub cycles_are : run session.driver ≡ cycles_before session.script done

-- a recorder's ring has these counts, and both ends know it
pub record HasCounts (ring : Sending) (got : Getting) (counted : Counts) : Type 0 where
  pub sent : length ring.put ≡ counted.sent
  pub taken : length got.got ≡ counted.taken
  pub front : got.got ≡ take (length got.got) ring.put
  pub looks : ring.least ≡ length got.got
  pub finds : got.least ≡ length ring.put
  pub open_ended : ring.ended ≡ false

-- what was put into a recorder's ring, and its overruns, are those of these counts
pub record HasPut (ring : Sending) (overruns : List Overrun) (counted : Counts) : Type 0 where
  pub sent : length ring.put ≡ counted.sent
  pub losses : overruns ≡ counted.losses

-- the counts and the overruns are those of the definition
pub record RingSerial (session : Session) (recorder : ℕ) (ring : Sending) (got : Getting) : Type 0 where
  pub counted : HasCounts ring got (counts (serial_course session.script) recorder (run session.driver))
  pub losses : overruns_on session.driver.overruns recorder ≡ (counts (serial_course session.script) recorder (run session.driver)).losses

-- a disk's counts and underruns are those of the stated turns, over the course of serial mode, whose turns rest on no underrun
pub record DiskSerial (given : Given) (session : Session) (disk : ℕ) (player : Playing) (got : Getting) : Type 0 where
  pub stands : StandsAt (course_before given) disk (got_one (course_before given) disk (run session.driver) (turned_before (course_before given) disk (run session.driver))) player got
  pub missed : underruns_on session.driver.underruns disk ≡ missed_up_to (course_before given) disk (run session.driver)

-- of each
abbrev pub DisksSerial : Given → Session → Type 0
DisksSerial given session = (disk : ℕ) (player : Playing) (got : Getting) → IsDisk session disk player got → DiskSerial given session disk player got

-- each course over what was given that fits is kept, and the rings are those of serial mode
pub record SerialKept (given : Given) (session : Session) : Type 0 where
  pub own : IsFor session given
  pub keeps : KeepsAny given session.driver
  pub rings : (recorder : ℕ) (ring : Sending) (got : Getting) → slice_get session.driver.rings recorder ≡ Some ring → slice_get session.getting recorder ≡ Some got → RingSerial session recorder ring got
  pub plays : PlaysAll given session
  pub turned : DisksSerial given session
