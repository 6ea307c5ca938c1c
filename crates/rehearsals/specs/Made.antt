-- What contracts see of a rehearsal. Callers cite this module.
--     Made      the bytes of its two files
use Rattle.std.specs.Prelude.{ℕ, List}

pub record Made : Type 0 where
  pub script : List ℕ
  pub capture : List ℕ
