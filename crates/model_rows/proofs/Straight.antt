-- The capture straight to the playback.
use Rattle.std.proofs.Common.{◌≡◌, ℕ, List, [], ◌∷◌, ◌++◌, ℤ, pos, refl, codes, replicate, drop}
use Rattle.std.specs.Fmt.{digits}
use Rattle.jack_types.specs.declared.scripts.Body.TheVariants.{Run}
use Rattle.session_model.specs.Explanations.{Given, playback_text}
use Rattle.session_model.specs.Samples.{up}
use Rattle.session_model.specs.Serial.{serial_printed}
use Rattle.model_rows.specs.Given.{header, given, joins, reports}

abbrev lf : List ℕ → List ℕ
lf text = text ++ 10 ∷ []

abbrev straight : List ℤ → Given
straight capture = given (header 48000 4 1 1 16) (joins (codes "system:capture_1") (codes "system:playback_1") ++ Run 2 ∷ []) capture

abbrev five : List ℤ
five = up 16 (pos 1) ∷ up 16 (pos 2) ∷ up 16 (pos 3) ∷ up 16 (pos 4) ∷ up 16 (pos 5) ∷ []

-- a capture without a frame
empty_capture : playback_text (straight []) (serial_printed (straight []))
    ≡ codes "RIFF" ++ 0x34 ∷ 0 ∷ 0 ∷ 0 ∷ codes "WAVE" ++ codes "fmt " ++ 0x10 ∷ 0 ∷ 0 ∷ 0 ∷ 1 ∷ 0 ∷ 1 ∷ 0 ∷ 0x80 ∷ 0xbb ∷ 0 ∷ 0 ∷ 0 ∷ 0x77 ∷ 1 ∷ 0 ∷ 2 ∷ 0 ∷ 0x10 ∷ 0
    ∷ codes "data" ++ 0x10 ∷ 0 ∷ 0 ∷ 0 ∷ replicate 16 0
unfolding digits
empty_capture = refl

empty_report : reports (straight []) ≡ lf (codes "report 1") ++ lf (codes "call 0 1 ok 1") ++ lf (codes "cycle 1 1 stopped 0 -") ++ lf (codes "cycle 2 1 stopped 0 -") ++ lf (codes "end")
unfolding digits
empty_report = refl

-- the last period is filled up with zeros
last_part : drop 44 (playback_text (straight five) (serial_printed (straight five))) ≡ 1 ∷ 0 ∷ 2 ∷ 0 ∷ 3 ∷ 0 ∷ 4 ∷ 0 ∷ 5 ∷ 0 ∷ 0 ∷ 0 ∷ 0 ∷ 0 ∷ 0 ∷ 0 ∷ []
unfolding digits
last_part = refl
