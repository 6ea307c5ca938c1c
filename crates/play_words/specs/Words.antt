-- The words of a play.
--     Play      the names that they give
--     IsName word      a word that may name a file
--     IsPlay words play      the words are those of this play
use Rattle.std.specs.Prelude.{◌≡◌, ◌≢◌, ℕ, ◌≤◌, List, [], ◌∷◌, ◌++◌, codes, length, All}
use Rattle.session_model.specs.Soundness.{Apart}

-- the script, the capture and the playback, a file for each recorder, and a disk file for each `disk` line
pub record Play : Type 0 where
  pub script : List ℕ
  pub capture : List ℕ
  pub playback : List ℕ
  pub records : List (List ℕ)
  pub disks : List (List ℕ)

-- it has a byte, and does not begin with a dash
abbrev pub IsName : List ℕ → Type 0
IsName [] = ⊥
IsName (c ∷ cs) = c ≢ 45

abbrev pub names_of : Play → List (List ℕ)
names_of play = play.script ∷ play.capture ∷ play.playback ∷ play.records ++ play.disks

-- each name behind its option
abbrev pub pairs_of : List ℕ → List (List ℕ) → List (List ℕ)
pairs_of option [] = []
pairs_of option (name ∷ names) = option ∷ name ∷ pairs_of option names

-- `play`, three names, up to four pairs `--record NAME`, and up to four pairs `--disk NAME`; no two names are equal
pub record IsPlay (words : List (List ℕ)) (play : Play) : Type 0 where
  pub words_are : words ≡ codes "play" ∷ play.script ∷ play.capture ∷ play.playback ∷ pairs_of (codes "--record") play.records ++ pairs_of (codes "--disk") play.disks
  pub few_records : length play.records ≤ 4
  pub few_disks : length play.disks ≤ 4
  pub are_names : All IsName (names_of play)
  pub apart : Apart (λ (name : List ℕ). name) (names_of play)
