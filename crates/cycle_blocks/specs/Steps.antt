-- Inside: how the blocks of a cycle are put, recorder by recorder. No public clause cites this module.
--     MaySendOne seen frames recorder      when the block of one recorder may be put
--     SendsOne active samples cycle recorder before after      what was done at one recorder
--     SendsFirst rack nodes cycle period count before after      what was done at the first recorders
use Rattle.std.specs.Prelude.{◌≡◌, ℕ, ◌+◌, ◌*◌, ◌^◌, ◌<◌, ◌≤◌, Bool, false, List, ◌++◌, length, All, ℤ}
use Rattle.jack_types.specs.declared.replies.Overrun.{Overrun}
use Rattle.session_model.specs.State.{OpenClient}
use Rattle.driver_words.specs.Rings.{items_of}
use Rattle.bench_rack.specs.Racks.{Racked}
use Rattle.recorder_rings.specs.driver_laws.specs.Cycling.{PutsOne}
use Rattle.recorder_rings.specs.driver_laws.specs.Drivers.{overruns_on}
use Rattle.recorder_rings.specs.Sending.{AreCounted, Sent, channels_at, ring_at}
use Rattle.cycle_blocks.specs.Blocks.{block_by, is_taped}

pub record MaySendOne (seen : Sent) (frames recorder : ℕ) : Type 0 where
  pub there : recorder < length seen.rings
  pub period : frames ≤ seen.room
  pub samples : (ring_at seen recorder).samples ≡ seen.room * channels_at seen recorder
  pub going : (ring_at seen recorder).ended ≡ false
  pub few : length (ring_at seen recorder).put < 2 ^ 62
  pub most : items_of (ring_at seen recorder).put + frames * channels_at seen recorder ≤ (ring_at seen recorder).most
  pub losses : length seen.overruns < seen.losses

-- the block of one recorder was put where a client records on it; all others' rings and overruns stay
pub record SendsOne (active : Bool) (samples : List ℤ) (cycle recorder : ℕ) (before after : Sent) : Type 0 where
  pub at : PutsOne cycle recorder active samples (ring_at before recorder) (ring_at after recorder) (overruns_on before.overruns recorder) (overruns_on after.overruns recorder)
  pub others : (other : ℕ) → (other ≡ recorder → ⊥) → ring_at after other ≡ ring_at before other
  pub as_many : length after.rings ≡ length before.rings
  pub overruns : List Overrun
  pub more : after.overruns ≡ before.overruns ++ overruns
  pub now : All (λ (overrun : Overrun). (overrun.cycle ≡ cycle) × (overrun.recorder ≡ recorder)) overruns
  pub few : length overruns ≤ 1
  pub counted : AreCounted before → AreCounted after
  pub same : after ≡ record before { rings = after.rings; sent = after.sent; blocks = after.blocks; overruns = after.overruns }

-- the blocks of the first recorders were put; the others' rings and overruns stay
pub record SendsFirst (rack : Racked) (nodes : List OpenClient) (cycle period count : ℕ) (before after : Sent) : Type 0 where
  pub each : (recorder : ℕ) → recorder < count
      → PutsOne cycle recorder (is_taped nodes recorder) (block_by rack nodes period (channels_at before recorder) recorder) (ring_at before recorder) (ring_at after recorder) (overruns_on before.overruns recorder) (overruns_on after.overruns recorder)
  pub rings_later : (recorder : ℕ) → count ≤ recorder → ring_at after recorder ≡ ring_at before recorder
  pub overruns_later : (recorder : ℕ) → count ≤ recorder → overruns_on after.overruns recorder ≡ overruns_on before.overruns recorder
  pub as_many : length after.rings ≡ length before.rings
  pub overruns : List Overrun
  pub more : after.overruns ≡ before.overruns ++ overruns
  pub now : All (λ (overrun : Overrun). (overrun.cycle ≡ cycle) × (overrun.recorder < count)) overruns
  pub few : length overruns ≤ count
  pub counted : AreCounted before → AreCounted after
  pub same : after ≡ record before { rings = after.rings; sent = after.sent; blocks = after.blocks; overruns = after.overruns }
