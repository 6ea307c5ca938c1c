-- Interleaved blocks, frame by frame, and their channels.
--     channel_of count frames block channel      a channel of a block of so many channels
--     IsLaid count frames buffers block      the block has these buffers as its first channels
use Rattle.std.specs.Prelude.{◌≡◌, ℕ, ◌+◌, ◌*◌, ◌<◌, List, [], length, map, slice_index_or, ℤ}
use Rattle.wave_pcm.specs.session_model.specs.Samples.{below, sample}

-- channels and frames are counted from 0; past the block's end there are zeros
abbrev pub channel_of : ℕ → ℕ → List ℤ → ℕ → List ℤ
channel_of count frames block channel = map (λ i. sample block (i * count + channel)) (below frames)

abbrev pub IsLaid : ℕ → ℕ → List (List ℤ) → List ℤ → Type 0
IsLaid count frames buffers block = (i channel : ℕ) → i < frames → channel < length buffers → sample block (i * count + channel) ≡ sample (slice_index_or buffers channel []) i
