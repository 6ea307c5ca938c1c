-- What a cycle gets from the disks' rings.
--     is_fed nodes disk      whether a client of these nodes plays the disk
--     fitted size samples      so many samples, zeros past the end
--     given_of size before after      what a ring gave
--     played_by before after played      the count of blocks got
--     GetsAt active cycle disk before after      what a cycle got of one disk
--     GetsAll nodes cycle before after      all that it got
--     HasFeeds seen driver      the driver's disks are these
use Rattle.std.specs.Prelude.{◌≡◌, ℕ, ◌+◌, ◌-◌, ◌*◌, ◌^◌, ◌<◌, ◌≤◌, Bool, nat_lt, List, ◌++◌, length, min, take, slice_get, All, ℤ, Option, Some, None, if◌then◌else◌}
use Rattle.std.specs.List.{list_any}
use Rattle.std.specs.Option.{option_map_or}
use Rattle.jack_types.specs.declared.replies.Underrun.{Underrun}
use Rattle.session_model.specs.Courses.{is_disk}
use Rattle.session_model.specs.Rings.{RingBlock}
use Rattle.session_model.specs.Samples.{silence}
use Rattle.session_model.specs.State.{OpenClient}
use Rattle.driver_words.specs.Rings.{Getting}
use Rattle.driver_laws.specs.Cycling.{GetsOne}
use Rattle.driver_laws.specs.Drivers.{Driver, underruns_on}
use Rattle.driver_words.specs.Feeding.{AreCounted, Fed, block_at, channels_at, disk_at, played_at}

abbrev pub is_fed : List OpenClient → ℕ → Bool
is_fed nodes disk = list_any (λ client. is_disk disk client.kind) nodes

abbrev pub fitted : ℕ → List ℤ → List ℤ
fitted size samples = take size samples ++ silence (size - length samples)

-- the block that came; silence where the end was found; else none
abbrev pub given_of : ℕ → Getting → Getting → Option (List ℤ)
given_of size before after = option_map_or (λ (one : RingBlock). Some (fitted size one.samples)) (slice_get after.got (length before.got)) (if after.done then Some (silence size) else None)

-- where nobody plays the disk, none
abbrev pub given_now : Bool → ℕ → Getting → Getting → Option (List ℤ)
given_now active size before after = if active then given_of size before after else None

-- one more where a block came
abbrev pub played_by : Getting → Getting → ℕ → ℕ
played_by before after played = if nat_lt (length before.got) (length after.got) then min (played + 1) (2 ^ 64 - 1) else played

-- of one disk: what `GetsOne` says; its player has what its ring gave, and that is counted
pub record GetsAt (active : Bool) (cycle disk : ℕ) (before after : Fed) : Type 0 where
  pub gets : GetsOne cycle disk active (disk_at before disk) (disk_at after disk) (underruns_on before.underruns disk) (underruns_on after.underruns disk)
  pub gives : block_at after disk ≡ given_now active (before.period * channels_at before disk) (disk_at before disk) (disk_at after disk)
  pub counts : played_at after disk ≡ played_by (disk_at before disk) (disk_at after disk) (played_at before disk)

-- of each disk that a client of these nodes plays; underruns of this cycle alone, at most one a disk
pub record GetsAll (nodes : List OpenClient) (cycle : ℕ) (before after : Fed) : Type 0 where
  pub each : (disk : ℕ) → disk < length before.disks → GetsAt (is_fed nodes disk) cycle disk before after
  pub as_many : length after.disks ≡ length before.disks
  pub as_many_blocks : length after.blocks ≡ length before.blocks
  pub as_many_counts : length after.played ≡ length before.played
  pub underruns : List Underrun
  pub more : after.underruns ≡ before.underruns ++ underruns
  pub now : All (λ (underrun : Underrun). (underrun.cycle ≡ cycle) × (underrun.disk < length before.disks)) underruns
  pub few : length underruns ≤ length before.disks
  pub counted : AreCounted before → AreCounted after
  pub same : after ≡ record before { disks = after.disks; played = after.played; blocks = after.blocks; underruns = after.underruns }

-- the driver's rings, counts and underruns are these, its script's disks are of these channels, and its period is theirs
pub record HasFeeds (seen : Fed) (driver : Driver) : Type 0 where
  pub disks : driver.disks ≡ seen.disks
  pub played : driver.played ≡ seen.played
  pub underruns : driver.underruns ≡ seen.underruns
  pub channels : driver.script.header.disks ≡ seen.channels
  pub period : 0 < length seen.disks → driver.set ≡ seen.period
