-- What contracts see of the player of a disk file.
--     Playing      what is seen of it
--     in_hand waiting      the block that was read and not put, if there is one
--     cut_block size samples i      so many samples behind i times as many
--     AreBlocks size samples blocks      blocks are the first of these samples
use Rattle.std.specs.Prelude.{◌≡◌, ℕ, ◌+◌, ◌*◌, ◌≤◌, Bool, List, [], ◌∷◌, length, map, ℤ, Option, Some, None}
use Rattle.std.specs.Int.{div_ceil}
use Rattle.jack_types.specs.declared.files.Format.{Format}
use Rattle.session_model.specs.Samples.{below, sample}
use Rattle.driver_words.specs.Rings.{Sending}

-- the file's format, and the end of its ring that puts; the samples that were not read, where the file tells them; the block that was read
-- and not put; whether a read found the file's end, and whether one failed; the file's count of faults
pub record Playing : Type 0 where
  pub format : Format
  pub sending : Sending
  pub left : Option (List ℤ)
  pub waiting : Option (List ℤ)
  pub over : Bool
  pub failed : Bool
  pub faults : ℕ

abbrev pub in_hand : Option (List ℤ) → List (List ℤ)
in_hand None = []
in_hand (Some block) = block ∷ []

-- zeros past the end
abbrev pub cut_block : ℕ → List ℤ → ℕ → List ℤ
cut_block size samples i = map (λ k. sample samples (i * size + k)) (below size)

-- in their order; at least one sample is there for each
pub record AreBlocks (size : ℕ) (samples : List ℤ) (blocks : List (List ℤ)) : Type 0 where
  pub cut : blocks ≡ map (cut_block size samples) (below (length blocks))
  pub within : length blocks ≤ div_ceil (length samples) size
