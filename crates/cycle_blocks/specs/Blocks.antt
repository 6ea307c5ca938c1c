-- What the recorders' part of a cycle does.
--     heard_at rack period channels n      what the client of a node heard
--     is_taped nodes recorder      whether a client of these nodes records on the recorder
--     block_by rack nodes period channels recorder      the block of a recorder
--     MaySend seen frames      when the blocks of a cycle may be put
--     Sends rack nodes cycle period before after      what a cycle did
use Rattle.std.specs.Prelude.{◌≡◌, ℕ, ◌+◌, ◌*◌, ◌^◌, ◌<◌, ◌≤◌, Bool, false, List, [], ◌++◌, find, length, map, position, is_some, All, ℤ}
use Rattle.std.specs.Option.{option_map_or}
use Rattle.jack_types.specs.declared.replies.Overrun.{Overrun}
use Rattle.session_model.specs.Kinds.{input_at}
use Rattle.session_model.specs.Recorders.{is_tape}
use Rattle.session_model.specs.Samples.{below, interleaved}
use Rattle.session_model.specs.State.{OpenClient}
use Rattle.driver_words.specs.Rings.{items_of}
use Rattle.bench_rack.specs.Racks.{Racked, bench_at}
use Rattle.recorder_rings.specs.driver_laws.specs.Cycling.{PutsOne}
use Rattle.recorder_rings.specs.driver_laws.specs.Drivers.{overruns_on}
use Rattle.recorder_rings.specs.Sending.{AreCounted, Sent, channels_at, ring_at}

-- what the inputs of a node's client got when its bench was last played: so many channels, interleaved, with silence where there is no such input
abbrev pub heard_at : Racked → ℕ → ℕ → ℕ → List ℤ
heard_at rack period channels n = interleaved period (map (input_at period (bench_at rack n).kept.sounds) (below channels))

-- whether a client of these nodes records on the recorder
abbrev pub is_taped : List OpenClient → ℕ → Bool
is_taped nodes recorder = is_some (find (λ (client : OpenClient). is_tape recorder client.kind) nodes)

-- what the client that records on a recorder heard; nothing where none does
abbrev pub block_by : Racked → List OpenClient → ℕ → ℕ → ℕ → List ℤ
block_by rack nodes period channels recorder = option_map_or (heard_at rack period channels) (position (λ (client : OpenClient). is_tape recorder client.kind) nodes) []

-- the blocks of a cycle of so many frames may be put: each ring is of its recorder's channels, has no end and room for a block, and there is room for as many overruns as recorders
pub record MaySend (seen : Sent) (frames : ℕ) : Type 0 where
  pub period : frames ≤ seen.room
  pub few_recorders : length seen.rings ≤ 255
  pub samples : (recorder : ℕ) → recorder < length seen.rings → (ring_at seen recorder).samples ≡ seen.room * channels_at seen recorder
  pub going : (recorder : ℕ) → recorder < length seen.rings → (ring_at seen recorder).ended ≡ false
  pub few : (recorder : ℕ) → recorder < length seen.rings → length (ring_at seen recorder).put < 2 ^ 62
  pub most : (recorder : ℕ) → recorder < length seen.rings → items_of (ring_at seen recorder).put + frames * channels_at seen recorder ≤ (ring_at seen recorder).most
  pub losses : length seen.overruns + length seen.rings ≤ seen.losses

-- what a cycle did: at each ring what `PutsOne` says, and overruns of this cycle alone, at most one a recorder
pub record Sends (rack : Racked) (nodes : List OpenClient) (cycle period : ℕ) (before after : Sent) : Type 0 where
  pub each : (recorder : ℕ) → recorder < length before.rings
      → PutsOne cycle recorder (is_taped nodes recorder) (block_by rack nodes period (channels_at before recorder) recorder) (ring_at before recorder) (ring_at after recorder) (overruns_on before.overruns recorder) (overruns_on after.overruns recorder)
  pub as_many : length after.rings ≡ length before.rings
  pub overruns : List Overrun
  pub more : after.overruns ≡ before.overruns ++ overruns
  pub now : All (λ (overrun : Overrun). (overrun.cycle ≡ cycle) × (overrun.recorder < length before.rings)) overruns
  pub few : length overruns ≤ length before.rings
  pub counted : AreCounted before → AreCounted after
  pub same : after ≡ record before { rings = after.rings; sent = after.sent; blocks = after.blocks; overruns = after.overruns }
