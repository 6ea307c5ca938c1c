-- The text of a reason.
--     IsReason bytes      lines for a terminal, the first of which begins with the program's name
use Rattle.std.specs.Prelude.{◌≡◌, ◌≢◌, ◌≤◌, ℕ, List, All, codes, take}

-- a byte that ends no line steers no terminal
abbrev pub IsShown : ℕ → Type 0
IsShown byte = byte ≢ 10 → (32 ≤ byte) × (byte ≢ 127)

pub record IsReason (bytes : List ℕ) : Type 0 where
  pub begun : take 7 bytes ≡ codes "jackd: "
  pub shown : All IsShown bytes
