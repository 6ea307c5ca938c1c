-- What a session's steps at its disks leave.
--     EachDisk Step session after      each disk made such a step, and nothing else changed
--     DisksRead, DisksTold, DisksBroke      the readers read on, the ends of the rings met, a read failed
--     DisksServed session after      the readers read in threads of their own
use Rattle.std.specs.Prelude.{◌≡◌, ℕ, false, length, slice_get, Some}
use Rattle.driver_words.specs.Rings.{Getting}
use Rattle.disk_player.specs.Playing.{Playing}
use Rattle.disk_files.specs.Readers.{BreaksAhead, ReadsAhead, TellsAhead}
use Rattle.disk_serving.specs.Serving.{ReadsOff, ReadsOn}
use Rattle.run_laws.specs.Sessions.{IsDisk, Session}

pub record EachDisk (Step : Playing → Getting → Playing → Getting → Type 0) (session after : Session) : Type 0 where
  pub each : (disk : ℕ) (player player_after : Playing) (got got_after : Getting) → IsDisk session disk player got → IsDisk after disk player_after got_after → Step player got player_after got_after
  pub players : length after.players ≡ length session.players
  pub disks : length after.driver.disks ≡ length session.driver.disks
  pub same : after ≡ record session { driver = record session.driver { disks = after.driver.disks }; players = after.players }

-- each player put at most so many blocks, and both ends of its ring met
abbrev pub DisksRead : ℕ → Session → Session → Type 0
DisksRead most = EachDisk (ReadsAhead most)

-- both ends of each ring met
abbrev pub DisksTold : Session → Session → Type 0
DisksTold = EachDisk TellsAhead

-- a player read on, or its read failed, or it was left alone behind one that failed; then the ends of its ring met
pub data TriedDisk (most : ℕ) (player : Playing) (got : Getting) (after : Playing) (got_after : Getting) : Type 0 where
  ReadOn : ReadsAhead most player got after got_after → TriedDisk most player got after got_after
  BrokeOff : BreaksAhead most player got after got_after → TriedDisk most player got after got_after
  LeftAlone : TellsAhead player got after got_after → TriedDisk most player got after got_after

-- so did each
abbrev pub DisksBroke : ℕ → Session → Session → Type 0
DisksBroke most = EachDisk (TriedDisk most)

-- a player in its thread read on, or its read failed
pub data ServedDisk (before after : Playing) : Type 0 where
  ServedOn : ReadsOn before after → ServedDisk before after
  ServedOff : ReadsOff before after → ServedDisk before after

-- so did each; the ends that get know nothing of it
pub record DisksServed (session after : Session) : Type 0 where
  pub each : (disk : ℕ) (player player_after : Playing) → slice_get session.players disk ≡ Some player → slice_get after.players disk ≡ Some player_after → ServedDisk player player_after
  pub players : length after.players ≡ length session.players
  pub same : after ≡ record session { players = after.players }

-- and no read failed
abbrev pub NoneFailed : Session → Type 0
NoneFailed session = (disk : ℕ) (player : Playing) → slice_get session.players disk ≡ Some player → player.failed ≡ false
