-- The lines of a delay.
--     items_of lines      what each line still has to play
--     IsWhole line      it has room for no more samples
--     AreQuiet reached lines      those from a place on have nothing but silence to play
--     IsFilled part filled samples      of a buffer the front of these samples, as many as there is room for
use Rattle.std.specs.Prelude.{◌≡◌, ℕ, ◌≤◌, List, [], map, length, min, slice_index_or, take, ℤ}
use Rattle.port_mixer.specs.session_model.specs.Samples.{silence}
use Rattle.circular_buffer.specs.Buffer.{Buffer}

abbrev pub items_of : List (Buffer ℤ) → List (List ℤ)
items_of lines = map (λ (line : Buffer ℤ). line.items) lines

-- as many samples as there is room for
pub record IsWhole (line : Buffer ℤ) : Type 0 where
  pub whole : length line.items ≡ line.capacity

abbrev pub AreQuiet : ℕ → List (Buffer ℤ) → Type 0
AreQuiet reached lines = (k : ℕ) → reached ≤ k → slice_index_or (items_of lines) k [] ≡ silence (length (slice_index_or (items_of lines) k []))

pub record IsFilled (part : List ℤ) (filled : ℕ) (samples : List ℤ) : Type 0 where
  pub most : filled ≡ min (length part) (length samples)
  pub front : take filled part ≡ take filled samples
