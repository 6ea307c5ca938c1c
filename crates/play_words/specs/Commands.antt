-- The words of a command.
--     IsCommand words      they are those of a play, of a rehearsal or of a check
use Rattle.std.specs.Prelude.{ℕ, ◌⊎◌, List}
use Rattle.play_words.specs.Checks.{Check, IsCheck}
use Rattle.play_words.specs.Rehearsals.{IsRehearse}
use Rattle.play_words.specs.Words.{IsPlay, Play}

-- a play, a rehearsal or a check
abbrev pub IsCommand : List (List ℕ) → Type 0
IsCommand words = ((play : Play) × IsPlay words play) ⊎ ((n : ℕ) × IsRehearse words n) ⊎ ((check : Check) × IsCheck words check)
