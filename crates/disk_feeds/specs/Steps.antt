-- Inside: how the blocks of a cycle are got, disk by disk. No public clause cites this module.
--     MayGetOne seen disk      when the block of one disk may be got
--     GetsOnly active cycle disk before after      what was got of one disk, and nothing of the others
--     GetsFirst nodes cycle count before after      what was got of the first disks
use Rattle.std.specs.Prelude.{◌≡◌, ℕ, ◌*◌, ◌<◌, ◌≤◌, Bool, List, ◌++◌, length, All}
use Rattle.jack_types.specs.declared.replies.Underrun.{Underrun}
use Rattle.session_model.specs.State.{OpenClient}
use Rattle.driver_laws.specs.Drivers.{underruns_on}
use Rattle.disk_feeds.specs.Cycling.{GetsAt, is_fed}
use Rattle.driver_words.specs.Feeding.{AreCounted, Fed, block_at, channels_at, disk_at, played_at}

pub record MayGetOne (seen : Fed) (disk : ℕ) : Type 0 where
  pub there : disk < length seen.disks
  pub samples : (disk_at seen disk).samples ≡ seen.period * channels_at seen disk
  pub misses : length seen.underruns < seen.misses

-- of one disk alone
pub record GetsOnly (active : Bool) (cycle disk : ℕ) (before after : Fed) : Type 0 where
  pub at : GetsAt active cycle disk before after
  pub disks : (other : ℕ) → (other ≡ disk → ⊥) → disk_at after other ≡ disk_at before other
  pub blocks : (other : ℕ) → (other ≡ disk → ⊥) → block_at after other ≡ block_at before other
  pub played : (other : ℕ) → (other ≡ disk → ⊥) → played_at after other ≡ played_at before other
  pub as_many : length after.disks ≡ length before.disks
  pub as_many_blocks : length after.blocks ≡ length before.blocks
  pub as_many_counts : length after.played ≡ length before.played
  pub underruns : List Underrun
  pub more : after.underruns ≡ before.underruns ++ underruns
  pub now : All (λ (underrun : Underrun). (underrun.cycle ≡ cycle) × (underrun.disk ≡ disk)) underruns
  pub few : length underruns ≤ 1
  pub counted : AreCounted before → AreCounted after
  pub same : after ≡ record before { disks = after.disks; played = after.played; blocks = after.blocks; underruns = after.underruns }

pub record GetsFirst (nodes : List OpenClient) (cycle count : ℕ) (before after : Fed) : Type 0 where
  pub each : (disk : ℕ) → disk < count → GetsAt (is_fed nodes disk) cycle disk before after
  pub disks : (disk : ℕ) → count ≤ disk → disk_at after disk ≡ disk_at before disk
  pub blocks : (disk : ℕ) → count ≤ disk → block_at after disk ≡ block_at before disk
  pub played : (disk : ℕ) → count ≤ disk → played_at after disk ≡ played_at before disk
  pub underruns_later : (disk : ℕ) → count ≤ disk → underruns_on after.underruns disk ≡ underruns_on before.underruns disk
  pub as_many : length after.disks ≡ length before.disks
  pub as_many_blocks : length after.blocks ≡ length before.blocks
  pub as_many_counts : length after.played ≡ length before.played
  pub underruns : List Underrun
  pub more : after.underruns ≡ before.underruns ++ underruns
  pub now : All (λ (underrun : Underrun). (underrun.cycle ≡ cycle) × (underrun.disk < count)) underruns
  pub few : length underruns ≤ count
  pub counted : AreCounted before → AreCounted after
  pub same : after ≡ record before { disks = after.disks; played = after.played; blocks = after.blocks; underruns = after.underruns }
