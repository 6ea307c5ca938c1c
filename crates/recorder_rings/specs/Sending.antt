-- What contracts see of the rings of a session's recorders.
--     Sent      what is seen of them
--     ring_at, channels_at, sent_at, block_at, consumer_at      what a recorder has
--     MayPut seen recorder      when a recorder's block may be put
--     AreCounted seen      no block but those of `put` is in a ring
use Rattle.std.specs.Prelude.{◌≡◌, ℕ, ◌+◌, ◌*◌, ◌<◌, ◌≤◌, ◌^◌, false, List, [], length, map, slice_index, slice_index_or, ℤ, Option, None}
use Rattle.jack_types.specs.declared.replies.Overrun.{Overrun}
use Rattle.driver_words.specs.Rings.{Sending, Getting, items_of}

-- by recorder: the end of its ring that puts, the end that gets until it is handed out, its channels, how many blocks `put` put into
-- its ring, and the block that is put next, interleaved; then the overruns of all in the order in which they came, the greatest
-- period in frames, and for how many overruns there is room
pub record Sent : Type 0 where
  pub rings : List Sending
  pub out : List (Option Getting)
  pub channels : List ℕ
  pub sent : List ℕ
  pub blocks : List (List ℤ)
  pub overruns : List Overrun
  pub room : ℕ
  pub losses : ℕ

abbrev pub no_ring : Sending
no_ring = record {
  table = record { words = 0; slots = 0; views_name = 0; atom = 0; block = 0; offset = 0; slot_names = [] };
  capacity = 0;
  samples = 0;
  most = 0;
  put = [];
  looks = [];
  least = 0;
  ended = false;
}

abbrev pub ring_at : Sent → ℕ → Sending
ring_at seen recorder = slice_index_or seen.rings recorder no_ring

abbrev pub consumer_at : Sent → ℕ → Option Getting
consumer_at seen recorder = slice_index_or seen.out recorder None

abbrev pub channels_at : Sent → ℕ → ℕ
channels_at seen recorder = slice_index seen.channels recorder

abbrev pub sent_at : Sent → ℕ → ℕ
sent_at seen recorder = slice_index seen.sent recorder

abbrev pub block_at : Sent → ℕ → List ℤ
block_at seen recorder = slice_index_or seen.blocks recorder []

-- there is such a recorder, its ring is of its channels and has no end, the block fits what is left of it, and there is room for an overrun
pub record MayPut (seen : Sent) (recorder : ℕ) : Type 0 where
  pub there : recorder < length seen.rings
  pub samples : (ring_at seen recorder).samples ≡ seen.room * channels_at seen recorder
  pub going : (ring_at seen recorder).ended ≡ false
  pub few : length (ring_at seen recorder).put < 2 ^ 62
  pub most : items_of (ring_at seen recorder).put + length (block_at seen recorder) ≤ (ring_at seen recorder).most
  pub losses : length seen.overruns < seen.losses

-- what was put into the rings is what `put` put
abbrev pub AreCounted : Sent → Type 0
AreCounted seen = map (λ (ring : Sending). length ring.put) seen.rings ≡ seen.sent
