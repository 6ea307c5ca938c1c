-- What a check is given.
--     IsCase files scores check given written      what the files give, and what was written
--     IfCase files scores check P      where the files are told, there is such a case, and this holds of it
--     OfCase files scores check P      where they are told, this holds of each such case
--     HasCase files scores check      they are told, and there is one
--     LacksOne files names      one of these names is not there
--     LacksCase files scores check      a name that a step opens is not there
use Rattle.std.specs.Prelude.{◌≡◌, ◌⊎◌, ℕ, List, [], ◌∷◌, map, ⊤, Contains, Option, Some, None}
use Rattle.jack_host.specs.Files.{bytes_under, IsThere}
use Rattle.session_model.specs.Explanations.{Given, Written}
use Rattle.session_model.specs.Kinds.{Sound}
use Rattle.play_words.specs.Checks.{Check}
use Rattle.play_inputs.specs.Answers.{IfInput}
use Rattle.play_inputs.specs.Inputs.{Files, IsInput}
use Rattle.check_command.specs.Scripts.{IsWithoutDisks, LacksPlay}

-- what a play of the names would be given, without a disk, and the bytes that are checked
pub record IsCase (files : Files) (scores : List Sound) (check : Check) (given : Given) (written : Written) : Type 0 where
  pub script_bytes : List ℕ
  pub capture_bytes : List ℕ
  pub script_is : bytes_under files check.play.script ≡ Some script_bytes
  pub capture_is : bytes_under files check.play.capture ≡ Some capture_bytes
  pub input : IsInput script_bytes capture_bytes [] scores check.play given
  pub report_is : bytes_under files check.report ≡ Some written.report
  pub playback_is : bytes_under files check.play.playback ≡ Some written.playback
  pub records_are : map (bytes_under files) check.play.records ≡ map Some written.records

abbrev pub IfCase : Option Files → List Sound → Check → (Given → Written → Type 0) → Type 0
IfCase None scores check P = ⊤
IfCase (Some files) scores check P = (given : Given) × (written : Written) × IsCase files scores check given written × P given written

abbrev pub OfCase : Option Files → List Sound → Check → (Given → Written → Type 0) → Type 0
OfCase None scores check P = ⊤
OfCase (Some files) scores check P = (given : Given) (written : Written) → IsCase files scores check given written → P given written

abbrev pub HasCase : Option Files → List Sound → Check → Type 0
HasCase None scores check = ⊥
HasCase (Some files) scores check = (given : Given) × (written : Written) × IsCase files scores check given written

-- the files that are compared: the report, the playback, and the records
abbrev pub checked_names : Check → List (List ℕ)
checked_names check = check.report ∷ check.play.playback ∷ check.play.records

abbrev pub LacksOne : Option Files → List (List ℕ) → Type 0
LacksOne files names = (name : List ℕ) × Contains names name × (¬ IsThere files name)

-- a file that a play of the names would read is not there; or they fit, without a disk, and one that is compared is not there
abbrev pub LacksCase : Option Files → List Sound → Check → Type 0
LacksCase files scores check =
    LacksPlay files scores check.play
    ⊎ ((IsWithoutDisks files check.play × IfInput files scores check.play) × LacksOne files (checked_names check))
