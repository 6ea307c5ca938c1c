-- Planar buffers.
--     buffers_of count period samples      so many buffers of a period, one after another
--     with_buffer period place samples buffer      the samples with another buffer at a place
use Rattle.std.specs.Prelude.{ℕ, ◌+◌, ◌*◌, List, ◌++◌, map, take, drop, slice_range, ℤ}
use Rattle.port_mixer.specs.session_model.specs.Samples.{below}
pub use Rattle.port_mixer.specs.session_model.specs.Samples.{channels_of}

abbrev pub buffers_of : ℕ → ℕ → List ℤ → List (List ℤ)
buffers_of count period samples = map (λ j. slice_range samples (j * period) (j * period + period)) (below count)

abbrev pub with_buffer : ℕ → ℕ → List ℤ → List ℤ → List ℤ
with_buffer period place samples buffer = take (place * period) samples ++ (buffer ++ drop (place * period + period) samples)
