-- What worked rows record.
use Rattle.std.proofs.Common.{◌≡◌, ℕ, List, [], ◌∷◌, ◌++◌, ℤ, pos, suc, refl, codes, replicate, map, drop, length, flat_map}
use Rattle.std.specs.Fmt.{digits}
use Rattle.jack_types.specs.declared.kinds.Kind.TheVariants.{Tape}
use Rattle.jack_types.specs.declared.scripts.Body.{Body}
use Rattle.jack_types.specs.declared.scripts.Body.TheVariants.{Run, Freewheel, Period}
use Rattle.jack_types.specs.declared.scripts.Header.{Header}
use Rattle.session_model.specs.Explanations.{Given, record_text, playback_text}
use Rattle.session_model.specs.Samples.{below, up}
use Rattle.session_model.specs.Serial.{serial_printed}
use Rattle.model_rows.specs.Given.{header, given, with_ports, joins}

abbrev tape_header : ℕ → ℕ → ℕ → Header
tape_header version ring drain = record (header 8000 4 1 1 16) { version = version; ring = ring; drain = drain; recorders = record { rate = 8000; channels = 1; bits = 16 } ∷ [] }

-- the numbers from 1 on, as 16-bit samples
abbrev rising : ℕ → List ℤ
rising n = map (λ i. up 16 (pos (suc i))) (below n)

-- their bytes in a file of 16 bits
abbrev rising_bytes : ℕ → List ℕ
rising_bytes n = flat_map (λ i. suc i ∷ 0 ∷ []) (below n)

abbrev taped : Header → List Body → ℕ → Given
taped header segments n = given header (with_ports (codes "tape") (Tape 0) (codes "in" ∷ []) [] ++ joins (codes "system:capture_1") (codes "tape:in") ++ segments) (rising n)

abbrev recorded_bytes : Given → List ℕ
recorded_bytes given = drop 44 (record_text given (serial_printed given) 0)

-- a ring of two that is never emptied keeps two blocks
overrun_record : recorded_bytes (taped (tape_header 1 2 0) (Run 5 ∷ []) 20) ≡ rising_bytes 8
unfolding digits
overrun_record = refl

overrun_playback : length (playback_text (taped (tape_header 1 2 0) (Run 5 ∷ []) 20) (serial_printed (taped (tape_header 1 2 0) (Run 5 ∷ []) 20))) ≡ 84
unfolding digits
overrun_playback = refl

-- a freewheel segment loses nothing, and captures silence
freewheel_record : recorded_bytes (taped (tape_header 1 2 0) (Freewheel 5 ∷ []) 20) ≡ replicate 40 0
unfolding digits
freewheel_record = refl

freewheel_playback : length (playback_text (taped (tape_header 1 2 0) (Freewheel 5 ∷ []) 20) (serial_printed (taped (tape_header 1 2 0) (Freewheel 5 ∷ []) 20))) ≡ 44
unfolding digits
freewheel_playback = refl

-- emptied after each cycle, the ring loses nothing
drained_record : recorded_bytes (taped (tape_header 1 2 64) (Run 5 ∷ []) 20) ≡ rising_bytes 20
unfolding digits
drained_record = refl

-- blocks of two periods
two_periods : recorded_bytes (taped (tape_header 2 16 64) (Run 2 ∷ Period 8 ∷ Run 1 ∷ []) 16) ≡ rising_bytes 16
unfolding digits
two_periods = refl
