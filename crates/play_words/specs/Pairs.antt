-- Words that come in pairs, an option and a name. No public clause cites this module.
--     seconds words      the second word of each pair
--     words_in_pairs option words      how many words in front are pairs of this option
--     ArePairs words records disks      pairs of the recorders' names, and then of the disks'
--     IsFormed words play      the words have the form of this play, whatever its names are
--     IsCheckFormed words check      and of this check
use Rattle.std.specs.Prelude.{◌≡◌, ℕ, ◌+◌, ◌≤◌, List, [], ◌∷◌, ◌++◌, bytes_eq, codes, if◌then◌else◌, length}
use Rattle.play_words.specs.Checks.{Check}
use Rattle.play_words.specs.Words.{Play, pairs_of}

abbrev pub seconds : List (List ℕ) → List (List ℕ)
seconds [] = []
seconds (word ∷ []) = []
seconds (option ∷ name ∷ words) = name ∷ seconds words

abbrev pub words_in_pairs : List ℕ → List (List ℕ) → ℕ
words_in_pairs option [] = 0
words_in_pairs option (word ∷ []) = 0
words_in_pairs option (word ∷ name ∷ words) = if bytes_eq word option then 2 + words_in_pairs option words else 0

pub record ArePairs (words records disks : List (List ℕ)) : Type 0 where
  pub pairs_are : words ≡ pairs_of (codes "--record") records ++ pairs_of (codes "--disk") disks
  pub few_records : length records ≤ 4
  pub few_disks : length disks ≤ 4

pub record IsFormed (words : List (List ℕ)) (play : Play) : Type 0 where
  pub pairs : List (List ℕ)
  pub words_are : words ≡ codes "play" ∷ play.script ∷ play.capture ∷ play.playback ∷ pairs
  pub are_pairs : ArePairs pairs play.records play.disks

pub record IsCheckFormed (words : List (List ℕ)) (check : Check) : Type 0 where
  pub pairs : List (List ℕ)
  pub words_are : words ≡ codes "check" ∷ check.play.script ∷ check.play.capture ∷ check.report ∷ check.play.playback ∷ pairs
  pub are_pairs : ArePairs pairs check.play.records check.play.disks
