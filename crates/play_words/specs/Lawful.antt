-- What is asked of the names of a play, place by place. No public clause cites this module.
--     IsNoneFrom names first name      no name from a place on is equal to this one
--     IsLawfulAt names place      the name there may name a file, and none behind it is equal
--     AreLawful names      each may name a file, and no two are equal
use Rattle.std.specs.Prelude.{◌≢◌, ℕ, ◌+◌, ◌<◌, ◌≤◌, List, [], All, length, slice_index_or}
use Rattle.session_model.specs.Soundness.{Apart}
use Rattle.play_words.specs.Words.{IsName}

abbrev pub IsNoneFrom : List (List ℕ) → ℕ → List ℕ → Type 0
IsNoneFrom names first name = (other : ℕ) → first ≤ other → other < length names → name ≢ slice_index_or names other []

-- it is that of none behind it
abbrev pub IsLast : List (List ℕ) → ℕ → Type 0
IsLast names place = IsNoneFrom names (place + 1) (slice_index_or names place [])

pub record IsLawfulAt (names : List (List ℕ)) (place : ℕ) : Type 0 where
  pub is_name : IsName (slice_index_or names place [])
  pub is_last : IsLast names place

pub record AreLawful (names : List (List ℕ)) : Type 0 where
  pub are_names : All IsName names
  pub apart : Apart (λ (name : List ℕ). name) names
