-- The values that a bench is given.
use Rattle.std.specs.Prelude.{List, [], ◌∷◌, Option, Some, None}

-- the values that are there
abbrev pub values_of : {V : Type 0} → List (Option V) → List V
values_of [] = []
values_of (Some x ∷ xs) = x ∷ values_of xs
values_of (None ∷ xs) = values_of xs
