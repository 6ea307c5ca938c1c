-- The words of a rehearsal.
--     IsRehearse words n      the words are those of the rehearsal of this number
use Rattle.std.specs.Prelude.{◌≡◌, ℕ, ◌<◌, ◌^◌, List, [], ◌∷◌, codes}
use Rattle.session_model.specs.Grammar.{IsNumeral}

-- `rehearse`, and one to ten digits of a number below 2^32
pub record IsRehearse (words : List (List ℕ)) (n : ℕ) : Type 0 where
  pub digits : List ℕ
  pub words_are : words ≡ codes "rehearse" ∷ digits ∷ []
  pub number : IsNumeral digits n
  pub few : n < 2 ^ 32
