-- The words of a check.
--     Check      the names that they give
--     IsCheck words check      the words are those of this check
use Rattle.std.specs.Prelude.{◌≡◌, ℕ, ◌≤◌, List, ◌∷◌, ◌++◌, codes, length, All}
use Rattle.session_model.specs.Soundness.{Apart}
use Rattle.play_words.specs.Words.{IsName, Play, names_of, pairs_of}

-- the play that is checked, whose playback and records are there, and its report
pub record Check : Type 0 where
  pub play : Play
  pub report : List ℕ

-- `check`, the script, the capture, the report, the playback, and pairs as a play's; no two names are equal
pub record IsCheck (words : List (List ℕ)) (check : Check) : Type 0 where
  pub words_are : words ≡ codes "check" ∷ check.play.script ∷ check.play.capture ∷ check.report ∷ check.play.playback ∷ pairs_of (codes "--record") check.play.records ++ pairs_of (codes "--disk") check.play.disks
  pub few_records : length check.play.records ≤ 4
  pub few_disks : length check.play.disks ≤ 4
  pub are_names : All IsName (check.report ∷ names_of check.play)
  pub apart : Apart (λ (name : List ℕ). name) (check.report ∷ names_of check.play)
