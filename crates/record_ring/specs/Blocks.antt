-- What contracts see of the samples of a block.
use Rattle.std.specs.Prelude.{ℕ, List, ◌++◌, length, take, drop, ℤ}

-- the samples, and the most that there can be
pub record SampleList : Type 0 where
  pub items : List ℤ
  pub room : ℕ

-- the list with these samples; they are cut, or filled up from the old ones, so that their number stays
abbrev pub with_samples : SampleList → List ℤ → SampleList
with_samples list items = record list { items = take (length list.items) (items ++ drop (length items) list.items) }
