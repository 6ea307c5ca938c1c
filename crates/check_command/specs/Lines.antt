-- The line of a verdict.
--     right_line, wrong_line row      of a report that explains its files, and of one that does not
--     IsVerdictLine given written line      the line is that of the verdict
use Rattle.std.specs.Prelude.{◌≡◌, ◌⊎◌, ℕ, List, [], ◌∷◌, ◌++◌, codes, decimal}
use Rattle.jack_types.specs.declared.replies.Part.{Part}
use Rattle.jack_types.specs.declared.replies.Part.TheVariants.{Report, Call, Cycle, Meter, Midi, Recorder, Overrun, Disk, Underrun, Record, Playback}
use Rattle.jack_types.specs.declared.replies.Row.{Row}
use Rattle.check_sights.specs.Parts.{part_name}
use Rattle.check_model.specs.Checking.{IsFirstWrong}
use Rattle.session_model.specs.Explanations.{Explained, Given, Printed, Written}

abbrev pub IsExplained : Given → Written → Type 0
IsExplained given written = (printed : Printed) × Explained given printed written

-- a file has a place
abbrev pub place_text : Part → ℕ → List ℕ
place_text Report place = []
place_text Call place = []
place_text Cycle place = []
place_text Meter place = []
place_text Midi place = []
place_text Recorder place = []
place_text Overrun place = []
place_text Disk place = []
place_text Underrun place = []
place_text Record place = codes " " ++ decimal place
place_text Playback place = codes " " ++ decimal place

abbrev pub right_line : List ℕ
right_line = codes "check ok" ++ 10 ∷ []

abbrev pub wrong_line : Row → List ℕ
wrong_line row = codes "check wrong " ++ part_name row.what ++ codes " " ++ decimal row.number ++ place_text row.what row.place ++ 10 ∷ []

abbrev pub IsVerdictLine : Given → Written → List ℕ → Type 0
IsVerdictLine given written line = (IsExplained given written × (line ≡ right_line)) ⊎ ((row : Row) × IsFirstWrong given written row × (line ≡ wrong_line row))
