-- The words of the command.
--     Asking      the files, the cycle and the kind of text that are asked for
--     IsGraph words asking      the words are those of this asking
use Rattle.std.specs.Prelude.{◌≡◌, ◌≢◌, ℕ, ◌<◌, ◌≤◌, ◌^◌, Bool, true, false, List, [], ◌∷◌, codes}
use Rattle.play_words.specs.Words.{IsName}
use Rattle.session_model.specs.Grammar.{IsNumeral}

-- cycles are counted from 1; `dot` asks for graphviz
pub record Asking : Type 0 where
  pub script : List ℕ
  pub report : List ℕ
  pub cycle : ℕ
  pub dot : Bool

abbrev pub dot_words : Bool → List (List ℕ)
dot_words true = codes "--dot" ∷ []
dot_words false = []

-- `graph`, two names that differ, one to ten digits of a number from 1 to 2^32 - 1, and maybe `--dot`
pub record IsGraph (words : List (List ℕ)) (asking : Asking) : Type 0 where
  pub digits : List ℕ
  pub words_are : words ≡ codes "graph" ∷ asking.script ∷ asking.report ∷ digits ∷ dot_words asking.dot
  pub script_name : IsName asking.script
  pub report_name : IsName asking.report
  pub apart : asking.script ≢ asking.report
  pub number : IsNumeral digits asking.cycle
  pub counted : 1 ≤ asking.cycle
  pub few : asking.cycle < 2 ^ 32
