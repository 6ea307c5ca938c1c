-- The guests of the program.
--     handed_in      what they play, by number
use Rattle.std.specs.Prelude.{List, [], ◌∷◌, map, pos}
use Rattle.jack_types.specs.declared.kinds.Score.TheVariants.{Echo, Fir, Hold}
use Rattle.session_model.specs.Kinds.{Sound}
use Rattle.guests.specs.Sounds.{sound_of}

-- guest 0 echoes after 4,800 frames at half, guest 1 takes a fourth of its last three samples, the middle one twice, and guest 2 holds a sample
abbrev pub handed_in : List Sound
handed_in = map sound_of (Echo 4800 (pos 1) 1 ∷ Fir (pos 1 ∷ pos 2 ∷ pos 1 ∷ []) 2 ∷ Hold ∷ [])
