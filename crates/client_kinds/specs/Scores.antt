-- What tells apart the sounds of guests of one type.
--     Score      the numbers that tell what a guest plays
use Rattle.std.specs.Prelude.{List, ℤ}

-- no call changes them; what is played by them its type tells
abbrev pub Score : Type 0
Score = List ℤ
