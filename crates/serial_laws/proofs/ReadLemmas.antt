-- Readings of the disks, and meetings at their rings, leave a session's parts as they were.
--     IsSound-read, IsSound-told, AreEmpty-read
--     DisksTell-read, DisksTell-told      behind both the ends know how far the other is
--     AreFilled-long      and behind readings of as many blocks as a ring holds the rings are filled
use Rattle.std.proofs.Common.{◌≡◌, ℕ, false, All, sym, subst}
use Rattle.driver_words.specs.Rings.{Sending}
use Rattle.run_laws.specs.Sessions.{Session}
use Rattle.disk_runs.specs.Readings.{DisksBroke, DisksRead, DisksTold, NoneFailed}
use Rattle.disk_runs.specs.Rests.{AreFilled, DisksTell}
use Rattle.disk_runs.proofs.FileLemmas.{DisksTell-tried}
use Rattle.disk_runs.proofs.GoingLemmas.{NoneFailed-read, NoneFailed-told}
use Rattle.disk_runs.proofs.PartLemmas.{HasFiles-tried, HasRoom-tried, IsOne-tried, MissesInRun-tried}
use Rattle.disk_runs.proofs.RoomLemmas.{AreFilled-read}
use Rattle.disk_runs.proofs.StepLemmas.{tried-read, tried-told}
use Rattle.serial_laws.specs.Steps.{AreEmpty, IsSettled, IsSound}

IsSound-tried : (most : ℕ) (session after : Session) → IsSound session → DisksBroke most session after → NoneFailed after → IsSound after
IsSound-tried most session after sound tried going = record {
  one = IsOne-tried most session after tried sound.one;
  misses = MissesInRun-tried most session after tried sound.misses;
  files = HasFiles-tried most session after tried sound.files;
  no_end = subst (λ (s : Session). All (λ (ring : Sending). ring.ended ≡ false) s.driver.rings) (sym tried.same) sound.no_end;
  room = HasRoom-tried most session after tried sound.one sound.room;
  going = going;
}

pub IsSound-read : (most : ℕ) (session after : Session) → IsSound session → DisksRead most session after → IsSound after
IsSound-read most session after sound reads = IsSound-tried most session after sound (tried-read most session after reads) (NoneFailed-read most session after sound.one reads)

pub IsSound-told : (session after : Session) → IsSound session → DisksTold session after → IsSound after
IsSound-told session after sound tells = IsSound-tried 0 session after sound (tried-told 0 session after tells) (NoneFailed-told session after sound.one tells sound.going)

pub AreEmpty-read : (most : ℕ) (session after : Session) → DisksRead most session after → AreEmpty session → AreEmpty after
AreEmpty-read most session after reads empty = subst AreEmpty (sym reads.same) empty

pub DisksTell-read : (most : ℕ) (session after : Session) → DisksRead most session after → DisksTell after
DisksTell-read most session after reads = DisksTell-tried most session after (tried-read most session after reads)

pub DisksTell-told : (session after : Session) → DisksTold session after → DisksTell after
DisksTell-told session after tells = DisksTell-tried 0 session after (tried-told 0 session after tells)

pub AreFilled-long : (session after : Session) → IsSettled session → DisksRead session.script.header.ring session after → AreFilled after
AreFilled-long session after settled reads = AreFilled-read session after settled.sound.one reads settled.sound.room settled.tells
