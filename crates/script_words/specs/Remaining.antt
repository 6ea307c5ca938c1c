-- What is left of a text.
--     Remaining      the lines that are said, and the number of the line behind the text's last
--     begun_line name lines      the line in front, if it begins with the name
--     place text      the number of the next line, or of the one behind the last
use Rattle.std.specs.Prelude.{ℕ, ◌+◌, List, [], ◌∷◌, length, drop, if◌then◌else◌, Option, Some, None, Bool, false}
use Rattle.session_model.specs.Reading.{begins}
use Rattle.session_model.specs.Texts.{Line, said_from, text_lines, words}

pub record Remaining : Type 0 where
  pub lines : List Line
  pub end : ℕ

-- the number of the line in front; where none is left, that of the line behind the last
abbrev pub place : Remaining → ℕ
place text = place_of text.lines text.end
  where
    place_of : List Line → ℕ → ℕ
    place_of [] end = end
    place_of (line ∷ lines) end = line.number

-- bytes whose first line has this number
abbrev pub remaining_from : ℕ → List ℕ → Remaining
remaining_from number bytes = record { lines = said_from number bytes; end = number + length (text_lines bytes) }

-- a line in front, which has this number, and the bytes behind it
abbrev pub with_front : ℕ → Option (List ℕ) → List ℕ → Remaining
with_front number None rest = record { lines = []; end = number }
with_front number (Some text) rest = record { lines = record { number = number; words = words text } ∷ said_from (number + 1) rest; end = number + 1 + length (text_lines rest) }

-- how many lines are in front: one or none
abbrev pub in_front : {X : Type 0} → Option X → ℕ
in_front None = 0
in_front (Some text) = 1

-- whether the first of the lines begins with the word
abbrev pub begins_front : List ℕ → List Line → Bool
begins_front name [] = false
begins_front name (line ∷ lines) = begins name line

-- the line in front where it begins with the name, with its words behind that, and the lines behind it
abbrev pub begun_line : List ℕ → List Line → Option (Line × List Line)
begun_line name [] = None
begun_line name (line ∷ lines) = if begins name line then Some (record { number = line.number; words = drop 1 line.words }, lines) else None
