-- What the reader of a disk file does between two cycles.
--     ReadsAhead most before got after got_after      blocks went into the ring, and both ends know it
--     BreaksAhead most before got after got_after      or a read failed; both ends know what was put all the same
--     TellsAhead before got after got_after      both ends learnt how far the other is
use Rattle.std.specs.Prelude.{◌≡◌, ℕ, true, length}
use Rattle.session_model.specs.Courses.{DiskFile}
use Rattle.session_model.specs.Disks.{blocks_of}
use Rattle.driver_words.specs.Rings.{Getting, Tells}
use Rattle.disk_player.specs.Files.{HasPut, PlaysFile}
use Rattle.disk_player.specs.Playing.{Playing}
use Rattle.disk_player.specs.Turning.{Breaks, Turns}
use Rattle.disk_player.specs.declared.player.TurnEnd.{TurnEnd}

-- nothing else of the player changes
pub record TellsAhead (before : Playing) (got : Getting) (after : Playing) (got_after : Getting) : Type 0 where
  pub tells : Tells before.sending got after.sending got_after
  pub same : after ≡ record before { sending = after.sending }

-- where all blocks of the file are put, the end stands
pub record ReadsAhead (most : ℕ) (before : Playing) (got : Getting) (after : Playing) (got_after : Getting) : Type 0 where
  pub turn : TurnEnd
  pub turned : Playing
  pub turns : Turns most before turned turn
  pub tells : TellsAhead turned got after got_after
  pub plays : (file : DiskFile) (period : ℕ) → PlaysFile file period before → PlaysFile file period after
  pub ends : (file : DiskFile) (period : ℕ) → PlaysFile file period before → length after.sending.put ≡ blocks_of file period → after.sending.ended ≡ true

pub record BreaksAhead (most : ℕ) (before : Playing) (got : Getting) (after : Playing) (got_after : Getting) : Type 0 where
  pub turned : Playing
  pub breaks : Breaks most before turned
  pub tells : TellsAhead turned got after got_after
  pub has_put : (file : DiskFile) (period : ℕ) → PlaysFile file period before → HasPut file period after.sending
