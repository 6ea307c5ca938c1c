-- The mode of a session.
--     workers_of version first      what a mode's word chooses
use Rattle.std.specs.Prelude.{ℕ, Bool, true, ◌==◌, codes, List, [], ◌∷◌, Option, Some, None, if◌then◌else◌}
use Rattle.script_commands.specs.Choosing.{Choice, found_in, or_else}
use Rattle.grammar_laws.specs.session_model.specs.Reading.{made, number, old_modes}

-- the mode of version 3
abbrev pub stealing : List (Choice (Option ℕ × Bool))
stealing = (codes "steal", made (number 1 16) (λ workers. (Some workers, true))) ∷ []

abbrev pub workers_of : ℕ → List ℕ → Option (Choice (Option ℕ × Bool))
workers_of version first = or_else (found_in old_modes first) (if version == 3 then found_in stealing first else None)
