-- Inside the crate. No public clause cites this module.
use Rattle.std.specs.Prelude.{◌≡◌, ℕ, Bool, true, false, List, [], ◌++◌, Option}
use Rattle.jack_host.specs.Bytes.{Gains}

-- a line where it is wanted
abbrev pub line_if : Bool → List ℕ → List ℕ
line_if true text = text
line_if false text = []

-- of this text a first part was put, and the rest waits
pub record IsGathered (before now : Option (List ℕ)) (waiting text : List ℕ) : Type 0 where
  pub gone : List ℕ
  pub gained : Gains before now gone
  pub whole : gone ++ waiting ≡ text
