-- A serial session before its first phase.
--     bare session      the session without its files
--     AreFresh session      no end of a ring knows more than that nothing was put and nothing got
use Rattle.std.specs.Prelude.{◌≡◌, [], All, None}
use Rattle.driver_words.specs.Rings.{Sending, Getting}
use Rattle.run_laws.specs.Sessions.{Session}
use Rattle.disk_runs.specs.Rests.{DisksFresh}

abbrev pub bare : Session → Session
bare session = record session { driver = record session.driver { playback = None }; tapes = [] }

-- the producers' next look, and the consumers', may find 0; so may those of the disks' rings
pub record AreFresh (session : Session) : Type 0 where
  pub rings : All (λ (ring : Sending). ring.least ≡ 0) session.driver.rings
  pub getting : All (λ (got : Getting). got.least ≡ 0) session.getting
  pub disks : DisksFresh session
