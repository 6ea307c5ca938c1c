-- Sums of samples.
use Rattle.std.specs.Prelude.{ℤ, pos, ◌-ℤ◌, ◌≤ℤ◌, ◌^◌}

-- a sum that one more sample leaves within 64 bits: it is from −2^62 to 2^62
pub record IsSmall (x : ℤ) : Type 0 where
  pub least : (pos 0 -ℤ pos (2 ^ 62)) ≤ℤ x
  pub most : x ≤ℤ pos (2 ^ 62)
