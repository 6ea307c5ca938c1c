-- An event's word: its bytes, two hexadecimal digits each.
--     midi_event word      the event that the word spells, or the cause
--     midi words      the same as a reading function
use Rattle.std.specs.Prelude.{ℕ, List, ◌++◌, Option, Some, None, Result, Ok}
use Rattle.session_model.specs.jack_types.specs.declared.events.Event.{Event}
use Rattle.session_model.specs.jack_types.specs.declared.scripts.Cause.{Cause}
use Rattle.session_model.specs.Reading.{◌>>=◌, Reader, word, status_byte, hex_bytes, event_with}

abbrev pub midi_event : List ℕ → Result Event Cause
midi_event text = status_byte (hex_bytes text) >>= λ bytes. Ok (event_with bytes)

abbrev pub midi : Reader Event
midi words = do
  w ← word words
  event ← midi_event w.0
  Ok (event, w.1)

-- bytes in front of those that a rest spells, where it spells some
abbrev pub behind : List ℕ → Option (List ℕ) → Option (List ℕ)
behind front None = None
behind front (Some bytes) = Some (front ++ bytes)
