-- What the rings of a session's disks have between two steps.
--     DisksHaveRoom session      each has room for as many blocks as the script says
--     PutsAll given session      what was put into each is of its file
--     DisksTell session      both ends of each know how far the other is
--     AreFilled session      each is full, or at its file's end
--     DisksFilled given session      and behind one that is not at its end the file goes on
use Rattle.std.specs.Prelude.{◌≡◌, ℕ, ◌+◌, ◌<◌, true, false, length, take, slice_get, Some}
use Rattle.session_model.specs.Courses.{Course}
use Rattle.session_model.specs.Disks.{file_blocks}
use Rattle.session_model.specs.Explanations.{Given}
use Rattle.driver_words.specs.Rings.{Getting, Sending}
use Rattle.disk_player.specs.Playing.{Playing}
use Rattle.disk_turns.specs.Segments.{IsFilled}
use Rattle.run_laws.specs.Runs.{PutsFile}
use Rattle.run_laws.specs.Sessions.{IsDisk, IsOver, Session}

-- no step changes that, so it holds in the middle of a cycle too
abbrev pub DisksHaveRoom : Session → Type 0
DisksHaveRoom session = (disk : ℕ) (player : Playing) → slice_get session.players disk ≡ Some player → player.sending.capacity ≡ session.script.header.ring

-- also where a read failed
abbrev pub PutsAll : Given → Session → Type 0
PutsAll given session = (disk : ℕ) (player : Playing) → slice_get session.players disk ≡ Some player → PutsFile given disk player.sending

-- what was got is a front of what was put, and the end stands for both
pub record DiskTells (ring : Sending) (got : Getting) : Type 0 where
  pub front : got.got ≡ take (length got.got) ring.put
  pub over : got.done ≡ true → (got.got ≡ ring.put) × (ring.ended ≡ true)
  pub looks : ring.least ≡ length got.got
  pub finds : got.least ≡ length ring.put
  pub told : got.told ≡ ring.ended

-- behind a cycle this is false until the ends met
abbrev pub DisksTell : Session → Type 0
DisksTell session = (disk : ℕ) (player : Playing) (got : Getting) → IsDisk session disk player got → DiskTells player.sending got

-- all that a freewheel cycle needs, so that it misses no block
abbrev pub AreFilled : Session → Type 0
AreFilled session = (disk : ℕ) (got : Getting) → slice_get session.driver.disks disk ≡ Some got → IsFilled session.script.header.ring got

-- a ring that is full may hold the whole rest of the file; the end says that it does
pub record DiskFilled (given : Given) (session : Session) (disk : ℕ) (got : Getting) : Type 0 where
  pub filled : IsFilled session.script.header.ring got
  pub goes_on : got.told ≡ false → (course : Course) → IsOver given course → length got.got + session.script.header.ring < file_blocks course disk

-- what a segment needs in threads mode
abbrev pub DisksFilled : Given → Session → Type 0
DisksFilled given session = (disk : ℕ) (got : Getting) → slice_get session.driver.disks disk ≡ Some got → DiskFilled given session disk got

-- a new ring's end that gets knows of no block
abbrev pub DisksFresh : Session → Type 0
DisksFresh session = (disk : ℕ) (got : Getting) → slice_get session.driver.disks disk ≡ Some got → got.least ≡ 0
