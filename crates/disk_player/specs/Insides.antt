-- The fields of the player of a disk file, and what stays true of them. No public clause cites this module.
--     waiting_in waiting items      the block that waits
--     seen_of wave sending items waiting exhausted      what contracts see
--     IsSound, IsGoing      what stays true
--     FillsBlock before after items size count      what the read of a block does
--     LooksAhead before after, PutsNext before after      the next block is read, or the end stands; the block that waits is put
use Rattle.std.specs.Prelude.{◌≡◌, ℕ, ◌+◌, ◌%◌, ◌^◌, ◌<◌, ◌≤◌, Bool, true, false, nat_lt, List, ◌++◌, length, drop, min, ℤ, Option, Some, None, if◌then◌else◌}
use Rattle.session_model.specs.Rings.{RingBlock}
use Rattle.driver_words.specs.Rings.{Sending, Puts, items_of}
use Rattle.record_ring.specs.declared.block.Block.{Block}
use Rattle.wave_pcm.specs.Readings.{IsReadable, Reading}
use Rattle.disk_player.specs.Playing.{Playing, cut_block, in_hand}
use Rattle.disk_player.specs.Turning.{IsReady, Reads}

-- none where no sample of it is the file's
abbrev pub waiting_in : ℕ → List ℤ → Option (List ℤ)
waiting_in waiting items = if nat_lt 0 waiting then Some items else None

abbrev pub seen_of : Reading → Sending → List ℤ → ℕ → Bool → Playing
seen_of wave sending items waiting exhausted = record {
  format = wave.format;
  sending = sending;
  left = wave.left;
  waiting = waiting_in waiting items;
  over = exhausted;
  failed = wave.failed;
  faults = wave.faults;
}

-- the last block alone may have less of the file than its size
abbrev pub last_more : Bool → ℕ → ℕ
last_more exhausted size = if exhausted then size else 0

-- until a read fails: so few blocks were put, of so few samples, as the file's bytes may give
pub record IsGoing (wave : Reading) (sending : Sending) (items : List ℤ) (size waiting : ℕ) (exhausted : Bool) : Type 0 where
  pub given : wave.given < 2 ^ 32
  pub none_waits : waiting ≡ 0 → (length sending.put ≤ wave.given) × (items_of sending.put ≤ wave.given + last_more exhausted size)
  pub one_waits : 0 < waiting → (length sending.put + 1 ≤ wave.given) × (items_of sending.put + size ≤ wave.given + last_more exhausted size)
  pub whole : 0 < waiting → length items ≡ size

pub record IsSound (wave : Reading) (sending : Sending) (block : Block) (size waiting : ℕ) (exhausted ended : Bool) : Type 0 where
  pub samples : sending.samples ≡ size
  pub room : block.samples.room ≡ size
  pub some : 0 < size
  pub small : size < 2 ^ 32
  pub frames : size % wave.format.channels ≡ 0
  pub readable : IsReadable wave.format
  pub most : 2 ^ 33 ≤ sending.most
  pub end : sending.ended ≡ ended
  pub over : ended ≡ true → (exhausted ≡ true) × (waiting ≡ 0)
  pub going : wave.failed ≡ false → IsGoing wave sending block.samples.items size waiting exhausted

-- so many samples of the file, and zeros behind them
pub record FillsBlock (before after : Reading) (items : List ℤ) (size count : ℕ) : Type 0 where
  pub length_is : length items ≡ size
  pub within : count ≤ size
  pub limit : after.given < 2 ^ 32
  pub given : before.given + count ≤ after.given
  pub told : (left : List ℤ) → before.left ≡ Some left → (items ≡ cut_block size left 0) × (after.left ≡ Some (drop size left)) × (count ≡ min size (length left))

pub record LooksAhead (before after : Playing) : Type 0 where
  pub read : List (List ℤ)
  pub reads : Reads before read after
  pub hand : in_hand after.waiting ≡ in_hand before.waiting ++ read
  pub still : after.sending.ended ≡ false → after.sending ≡ before.sending
  pub ended : after.sending.ended ≡ true → after.sending ≡ record before.sending { ended = true }
  pub format : after.format ≡ before.format
  pub faults : after.faults ≡ before.faults
  pub ready : IsReady after

pub record PutsNext (before after : Playing) : Type 0 where
  pub some : 0 < before.sending.samples
  pub block : RingBlock
  pub look : ℕ
  pub puts : Puts before.sending block look after.sending
  pub waited : before.waiting ≡ Some block.samples
  pub rest_is : after ≡ record before { sending = after.sending; waiting = None }
