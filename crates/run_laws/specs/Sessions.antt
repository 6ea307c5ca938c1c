-- What contracts see of a session, and what its parts have to do with each other.
--     Session      what is seen of it
--     printed_of session, course_in given session      what its report says, and the one computation over that
--     IsGiven, IsFor, IsOver      what it was given, and the courses over that
--     IsDisk session disk player got      a disk's player, and the end of its ring that gets
--     IsOne session      its parts belong together
--     IsMet session      the desk and the driver met, and neither went on since
--     KeepsAny given driver      whatever course fits the driver, it has what that course gives
use Rattle.std.specs.Prelude.{◌≡◌, ℕ, ◌<◌, List, length, map, slice_get, All, Option, Some}
use Rattle.jack_types.specs.declared.replies.Overrun.{Overrun}
use Rattle.jack_types.specs.declared.replies.Underrun.{Underrun}
use Rattle.session_model.specs.Courses.{Course, DiskFile}
use Rattle.session_model.specs.Explanations.{Given, Printed, course_of}
use Rattle.session_model.specs.Grammar.{IsScript}
use Rattle.session_model.specs.Samples.{below}
use Rattle.session_model.specs.Scripts.{Script}
use Rattle.graph_word.specs.Publications.{HaveMet}
use Rattle.driver_words.specs.Rings.{Getting, IsPair, Sending}
use Rattle.driver_words.specs.Tapes.{Tape}
pub use Rattle.disk_player.specs.Playing.{Playing}
use Rattle.serial_lanes.specs.control_desk.specs.Desks.{Desk, IsDesk}
use Rattle.driver_laws.specs.Drivers.{Driver, HasOwnRings, HasOwnRows, overruns_on, run, underruns_on}
use Rattle.driver_laws.specs.Keeping.{Fits, Keeps}

-- `getting`, `tapes` and `counts` are each recorder's consumer, its file in the making and how many blocks were written into it; `players` are those of the disks' files;
-- `playback_file` and `record_files` are what the stores tell that came back
pub record Session : Type 0 where
  pub script : Script
  pub desk : Desk
  pub driver : Driver
  pub getting : List Getting
  pub tapes : List Tape
  pub counts : List ℕ
  pub players : List Playing
  pub playback_file : Option (List ℕ)
  pub record_files : List (Option (List ℕ))

-- what its report says: the desk's history, and the driver's numbers, overruns and underruns
abbrev pub printed_of : Session → Printed
printed_of session = record {
  history = session.desk.history;
  numbers = session.driver.numbers;
  overruns = map (overruns_on session.driver.overruns) (below (length session.script.header.recorders));
  underruns = map (underruns_on session.driver.underruns) (below (length session.script.header.disks));
}

-- the one computation over these lists
abbrev pub course_in : Given → Session → Course
course_in given session = course_of given (printed_of session)

-- what is given is of the session's script and guests, with disk files of the script's channels
pub record IsFor (session : Session) (given : Given) : Type 0 where
  pub script : given.script ≡ session.script
  pub scores : given.scores ≡ session.driver.scores
  pub channels : map (λ (file : DiskFile). file.channels) given.disks ≡ session.script.header.disks

-- and the capture and the players of a session that was not run tell it
pub record IsGiven (session : Session) (given : Given) : Type 0 where
  pub own : IsFor session given
  pub capture : session.driver.left ≡ Some given.capture
  pub disks : map (λ (player : Playing). player.left) session.players ≡ map (λ (file : DiskFile). Some file.samples) given.disks

-- a course over what was given
pub record IsOver (given : Given) (course : Course) : Type 0 where
  pub script : course.script ≡ given.script
  pub capture : course.capture ≡ given.capture
  pub disks : course.disks ≡ given.disks
  pub scores : course.scores ≡ given.scores

-- a disk's player, and the end of its ring that gets
pub record IsDisk (session : Session) (disk : ℕ) (player : Playing) (got : Getting) : Type 0 where
  pub player_is : slice_get session.players disk ≡ Some player
  pub got_is : slice_get session.driver.disks disk ≡ Some got

-- its parts are of one lawful script, of one publication and of the same rings, as many as the script says, and all overruns and underruns are of its recorders and disks
pub record IsOne (session : Session) : Type 0 where
  pub lawful : IsScript session.script
  pub desk_script : session.desk.script ≡ session.script
  pub driver_script : session.driver.script ≡ session.script
  pub desk : IsDesk session.desk
  pub table : session.desk.publishing.table ≡ session.driver.reading.table
  pub base : session.desk.publishing.base ≡ session.driver.reading.base
  pub rows : HasOwnRows session.driver
  pub rings : HasOwnRings session.driver
  pub own_recorders : All (λ (overrun : Overrun). overrun.recorder < length session.script.header.recorders) session.driver.overruns
  pub own_disks : All (λ (underrun : Underrun). underrun.disk < length session.script.header.disks) session.driver.underruns
  pub capacity : All (λ (ring : Sending). ring.capacity ≡ session.script.header.ring) session.driver.rings
  pub recorder_ends : length session.getting ≡ length session.script.header.recorders
  pub recorder_pairs : (recorder : ℕ) (ring : Sending) (got : Getting) → slice_get session.driver.rings recorder ≡ Some ring → slice_get session.getting recorder ≡ Some got → IsPair ring got
  pub disk_ends : length session.players ≡ length session.script.header.disks
  pub disk_pairs : (disk : ℕ) (player : Playing) (got : Getting) → slice_get session.players disk ≡ Some player → slice_get session.driver.disks disk ≡ Some got → IsPair player.sending got

-- no later take answers less than is published, and no later look finds less than the last cycle
pub record IsMet (session : Session) : Type 0 where
  pub met : HaveMet session.desk.publishing session.driver.reading
  pub reader : session.driver.reading.least ≡ length session.desk.publishing.all
  pub publisher : session.desk.publishing.least ≡ run session.driver

-- each course over what was given that fits is kept
abbrev pub KeepsAny : Given → Driver → Type 0
KeepsAny given driver = (course : Course) → IsOver given course → Fits driver course → Keeps driver course

-- so is the course of the session's own lists, which fits
pub record KeepsGiven (given : Given) (session : Session) : Type 0 where
  pub own : IsFor session given
  pub fits : Fits session.driver (course_in given session)
  pub keeps : KeepsAny given session.driver
