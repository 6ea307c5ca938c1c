-- What contracts see of the driver's end of the disks' rings.
--     Fed      what is seen of it
--     disk_at, producer_at, channels_at, played_at, block_at      what a disk has
--     fed_at seen disk      what the disk's player is given
--     no_disks, HasNoDisks seen      that of a session without disks
--     AreForPeriods seen, MayGet seen      when the blocks of a cycle may be got
--     AreCounted seen      what was got is what was counted
--     AreUpTo k seen      no underrun is of a later cycle
use Rattle.std.specs.Prelude.{◌≡◌, ℕ, ◌+◌, ◌*◌, ◌<◌, ◌≤◌, false, List, [], length, map, slice_index, slice_index_or, All, ℤ, Option, None}
use Rattle.std.specs.Option.{option_map_or}
use Rattle.session_model.specs.jack_types.specs.declared.replies.Underrun.{Underrun}
use Rattle.session_model.specs.Samples.{channels_of}
use Rattle.driver_words.specs.Rings.{Sending, Getting}

-- by disk: the end of its ring that gets, the end that puts until it is handed out, its channels, how many blocks were got, and the block
-- that its player has in the last cycle, interleaved, if it has one; then the underruns of all in the order in which they came, the frames
-- of a period, and for how many underruns there is room
pub record Fed : Type 0 where
  pub disks : List Getting
  pub out : List (Option Sending)
  pub channels : List ℕ
  pub played : List ℕ
  pub blocks : List (Option (List ℤ))
  pub underruns : List Underrun
  pub period : ℕ
  pub misses : ℕ

abbrev pub no_ring : Getting
no_ring = record {
  table = record { words = 0; slots = 0; views_name = 0; atom = 0; block = 0; offset = 0; slot_names = [] };
  samples = 0;
  most = 0;
  got = [];
  finds = [];
  least = 0;
  told = false;
  done = false;
}

abbrev pub no_block : Option (List ℤ)
no_block = None

abbrev pub disk_at : Fed → ℕ → Getting
disk_at seen disk = slice_index_or seen.disks disk no_ring

abbrev pub producer_at : Fed → ℕ → Option Sending
producer_at seen disk = slice_index_or seen.out disk None

abbrev pub channels_at : Fed → ℕ → ℕ
channels_at seen disk = slice_index seen.channels disk

abbrev pub played_at : Fed → ℕ → ℕ
played_at seen disk = slice_index seen.played disk

abbrev pub block_at : Fed → ℕ → Option (List ℤ)
block_at seen disk = slice_index_or seen.blocks disk no_block

-- the channels of its block; none where it has no block
abbrev pub fed_at : Fed → ℕ → List (List ℤ)
fed_at seen disk = option_map_or (channels_of (channels_at seen disk) seen.period) (block_at seen disk) []

abbrev pub no_disks : Fed
no_disks = record { disks = []; out = []; channels = []; played = []; blocks = []; underruns = []; period = 0; misses = 0 }

pub record HasNoDisks (seen : Fed) : Type 0 where
  pub disks : seen.disks ≡ []
  pub played : seen.played ≡ []
  pub blocks : seen.blocks ≡ []

-- each ring is made for a period of its disk's channels
abbrev pub AreForPeriods : Fed → Type 0
AreForPeriods seen = (disk : ℕ) → disk < length seen.disks → (disk_at seen disk).samples ≡ seen.period * channels_at seen disk

-- and there is room for as many underruns as disks
pub record MayGet (seen : Fed) : Type 0 where
  pub periods : AreForPeriods seen
  pub misses : length seen.underruns + length seen.disks ≤ seen.misses

abbrev pub AreCounted : Fed → Type 0
AreCounted seen = map (λ (ring : Getting). length ring.got) seen.disks ≡ seen.played

abbrev pub AreUpTo : ℕ → Fed → Type 0
AreUpTo k seen = All (λ (underrun : Underrun). underrun.cycle ≤ k) seen.underruns
