-- How far the reading of a header came, where the source tells its bytes.
use Rattle.std.specs.Prelude.{◌≡◌, ℕ, ◌+◌, ⊤, List, length, Option, Some, None, Ok}
use Rattle.samples.specs.jack_types.specs.declared.files.Format.{Format}
use Rattle.samples.specs.session_model.specs.WaveOpening.{forward, opened}

-- the first 12 bytes were read
abbrev pub Begins : Option (List ℕ) → Option (List ℕ) → Type 0
Begins None new = ⊤
Begins (Some xs) None = ⊥
Begins (Some xs) (Some ys) = (12 + length ys ≡ length xs) × (opened xs ≡ forward 4096 (length xs) None ys)

-- all bytes up to the data were read
abbrev pub Opens : Option (List ℕ) → Option (List ℕ) → Format → ℕ → Type 0
Opens None new format size = ⊤
Opens (Some xs) None format size = ⊥
Opens (Some xs) (Some ys) format size = opened xs ≡ Ok (record { format = format; size = size; rest = ys })

-- so many bytes were read, so many more chunks may come, and this format was found
abbrev pub IsOnward : Option (List ℕ) → Option (List ℕ) → ℕ → Option Format → ℕ → Type 0
IsOnward None now read found most = ⊤
IsOnward (Some xs) None read found most = ⊥
IsOnward (Some xs) (Some ys) read found most = (read + length ys ≡ length xs) × (opened xs ≡ forward most (length xs) found ys)
