-- What is true of a disk file with its player.
--     IsNewDeck feeds      the player's end as it is made
--     IsFedDeck feeds      and from cycle to cycle
--     IsDeck reader feeds has_failed      reader and player are at one ring
use Rattle.std.specs.Prelude.{◌≡◌, ◌≤◌, Bool, [], ◌∷◌, length}
use Rattle.driver_words.specs.Rings.{IsPair}
use Rattle.disk_player.specs.Playing.{Playing}
use Rattle.driver_words.specs.Feeding.{AreForPeriods, Fed, disk_at}
use Rattle.disk_feeds.specs.Openings.{IsNew}

-- of one disk of one channel: a ring of two blocks of four frames, and room for sixteen underruns
abbrev pub IsNewDeck : Fed → Type 0
IsNewDeck feeds = IsNew (1 ∷ []) 2 4 16 feeds

pub record IsFedDeck (feeds : Fed) : Type 0 where
  pub one : length feeds.disks ≡ 1
  pub periods : AreForPeriods feeds
  pub room : 16 ≤ feeds.misses

pub record IsDeck (reader : Playing) (feeds : Fed) (has_failed : Bool) : Type 0 where
  pub pair : IsPair reader.sending (disk_at feeds 0)
  pub going : reader.failed ≡ has_failed
  pub fed : IsFedDeck feeds
