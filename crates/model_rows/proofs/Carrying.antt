-- What MIDI ports carry in a cycle, and what the clients of the three kinds play and keep.
use Rattle.std.proofs.Common.{◌≡◌, ℕ, zero, suc, ◌+◌, ◌*◌, ◌%◌, List, [], ◌∷◌, length, map, slice_get, None, Some, refl}
use Rattle.jack_types.specs.declared.events.Event.{Event}
use Rattle.jack_types.specs.declared.events.Logged.{Logged}
use Rattle.jack_types.specs.declared.kinds.Kind.TheVariants.{Midiplay, Midithru, Midilog}
use Rattle.jack_types.specs.declared.moments.Moment.{Moment}
use Rattle.jack_types.specs.declared.moments.TransportState.{TransportState}
use Rattle.jack_types.specs.declared.moments.TransportState.TheVariants.{Stopped, Starting, Rolling}
use Rattle.midi_ports.specs.Listings.{push_fault}
use Rattle.midi_ports.specs.declared.events.EventFault.TheVariants.{Earlier, Full}
use Rattle.session_model.specs.Events.{merge, window}
use Rattle.session_model.specs.Kinds.{Memory, MidiPlayed, midi_play, no_memory}
use Rattle.session_model.specs.Samples.{below}
use Rattle.model_rows.specs.Given.{event_at}

-- the events at frames 0, 70 and 70 of a list, as a period has them
abbrev on : ℕ → Event
on offset = event_at offset (0x90 ∷ 0x3c ∷ 0x40 ∷ [])

abbrev off : ℕ → Event
off offset = event_at offset (0x80 ∷ 0x3c ∷ 0x00 ∷ [])

abbrev other : ℕ → Event
other offset = event_at offset (0x91 ∷ 0x3c ∷ 0x40 ∷ [])

abbrev three : List (ℕ × Event)
three = (0, on 0) ∷ (70, off 0) ∷ (70, other 0) ∷ []

window_from_0 : window three 0 64 ≡ on 0 ∷ []
window_from_0 = refl

-- 70 - 64 = 6
window_from_64 : window three 64 64 ≡ off 6 ∷ other 6 ∷ []
window_from_64 = refl

window_from_128 : window three 128 64 ≡ []
window_from_128 = refl

-- a period has its first frame, and not the one behind its last
window_up_to_70 : window three 6 64 ≡ []
window_up_to_70 = refl

window_with_70 : window three 6 65 ≡ off 64 ∷ other 64 ∷ []
window_with_70 = refl

-- an event of one byte
abbrev short : ℕ → ℕ → Event
short offset byte = event_at offset (byte ∷ [])

-- an event may not be earlier than the last one
pushed_earlier : push_fault (short 5 0x90 ∷ []) (short 3 0x80) ≡ Some (Earlier 5 3)
pushed_earlier = refl

pushed_at_one_offset : push_fault (short 5 0x90 ∷ []) (short 5 0x91) ≡ None
pushed_at_one_offset = refl

pushed_first : push_fault [] (short 3 0x80) ≡ None
pushed_first = refl

-- so many events of one byte, at 0 and on
abbrev row : ℕ → List Event
row count = map (λ k. short k 0xfe) (below count)

-- the 257th is one too many
pushed_256th : push_fault (row 255) (short 255 0xfe) ≡ None
pushed_256th = refl

pushed_257th : push_fault (row 256) (short 255 0xfe) ≡ Some Full
pushed_257th = refl

pushed_257th_and_earlier : push_fault (row 256) (short 254 0xfe) ≡ Some (Earlier 255 254)
pushed_257th_and_earlier = refl

-- at one offset the list that is connected first comes first
merged_at_one_offset : merge ((short 10 0x91 ∷ []) ∷ (short 10 0x90 ∷ []) ∷ []) ≡ short 10 0x91 ∷ short 10 0x90 ∷ []
merged_at_one_offset = refl

-- 200 events at the even offsets, and 200 at the odd ones
abbrev every_second : ℕ → ℕ → List Event
every_second first byte = map (λ k. short (2 * k + first) byte) (below 200)

merged_of_400 : merge (every_second 0 0x90 ∷ every_second 1 0x91 ∷ []) ≡ map (λ k. short k (0x90 + k % 2)) (below 256)
merged_of_400 = refl

-- cycle 2, at this frame
abbrev at : TransportState → ℕ → Moment
at state frame = record { cycle = 2; state = state; frame = frame; rate = 48000; bbt = None }

abbrev plays_on_two : List Event → MidiPlayed
plays_on_two events = record { outputs = events ∷ events ∷ []; memory = no_memory }

-- of the two inputs the first one was born first
abbrev inputs : List (List Event)
inputs = (short 10 0x91 ∷ []) ∷ (short 10 0x90 ∷ []) ∷ []

player_from_0 : midi_play three (Midiplay 0) no_memory 2 (at Rolling 0) 64 [] ≡ plays_on_two (on 0 ∷ [])
player_from_0 = refl

player_from_64 : midi_play three (Midiplay 0) no_memory 2 (at Rolling 64) 64 [] ≡ plays_on_two (off 6 ∷ other 6 ∷ [])
player_from_64 = refl

-- a cycle that does not roll has no event
player_starting : midi_play three (Midiplay 0) no_memory 2 (at Starting 0) 64 [] ≡ plays_on_two []
player_starting = refl

player_stopped : midi_play three (Midiplay 0) no_memory 2 (at Stopped 0) 64 [] ≡ plays_on_two []
player_stopped = refl

through : midi_play three Midithru no_memory 2 (at Rolling 0) 64 inputs ≡ plays_on_two (short 10 0x91 ∷ short 10 0x90 ∷ [])
through = refl

-- a log plays nothing
log : midi_play three Midilog no_memory 2 (at Rolling 0) 64 inputs ≡ record {
  outputs = [] ∷ [] ∷ [];
  memory = record no_memory { log = record { cycle = 2; event = short 10 0x91 } ∷ record { cycle = 2; event = short 10 0x90 } ∷ [] };
}
log = refl

-- what a log has kept behind so many cycles, counted from 1, with 255 events each
abbrev kept : ℕ → Memory
kept zero = no_memory
kept (suc k) = (midi_play [] Midilog (kept k) 0 (record (at Stopped 0) { cycle = suc k }) 256 (row 255 ∷ [])).memory

abbrev log_behind_19 : List Logged
log_behind_19 = (kept 19).log

log_is_full : length log_behind_19 ≡ 4096
log_is_full = refl

-- 4,096 = 16 · 255 + 16
last_is_kept : slice_get log_behind_19 4095 ≡ Some (record { cycle = 17; event = short 15 0xfe })
last_is_kept = refl
