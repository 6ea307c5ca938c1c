-- The lines in front of the body.
--     front_of end lines      the header and the events that they say, and the lines behind them
use Rattle.std.specs.Prelude.{ℕ, ◌==◌, Bool, List, [], codes, pos, slice_index, Ok, if◌then◌else◌}
use Rattle.jack_types.specs.declared.events.Event.{Event}
use Rattle.jack_types.specs.declared.files.Format.{Format}
use Rattle.jack_types.specs.declared.scripts.Header.{Header}
use Rattle.jack_types.specs.declared.scripts.Many.TheVariants.{Recorders, Events, Disks}
use Rattle.grammar_laws.specs.session_model.specs.Reading.{◌>>=◌, Reader, LineRead, required, optional, several, version, number, ranged, period, channels_and_bits, workers, recorder, event}
use Rattle.grammar_laws.specs.session_model.specs.Texts.{Line}
use Rattle.script_commands.specs.script_words.specs.Midi.{midi}
use Rattle.script_header.specs.declared.optional.Optional.{Optional}
use Rattle.script_header.specs.declared.required.Required.{Required}

-- the lines that are always there
abbrev pub required_of : ℕ → List Line → LineRead Required
required_of end lines = do
  v ← required end (codes "jackd") version lines
  rate ← required end (codes "rate") (number 8000 192000) v.1
  p ← required end (codes "period") period rate.1
  capture ← required end (codes "capture") (number 1 8) p.1
  playback ← required end (codes "playback") channels_and_bits capture.1
  m ← required end (codes "mode") (workers v.0) playback.1
  Ok (record { version = v.0; rate = rate.0; period = p.0; capture = capture.0; playback = playback.0.0; bits = playback.0.1; threads = m.0.0; steal = m.0.1 }, m.1)

-- `fill` is of version 3
abbrev pub fill_of : Bool → List Line → LineRead ℕ
fill_of is_new lines = if is_new then optional 4 (codes "fill") (number 0 64) lines else Ok (4, lines)

-- the lines that may be left out
abbrev pub optional_of : Bool → List Line → LineRead Optional
optional_of is_new lines = do
  ring ← optional 16 (codes "ring") (number 1 64) lines
  drain ← optional 4 (codes "drain") (number 0 64) ring.1
  fill ← fill_of is_new drain.1
  Ok (record { ring = ring.0; drain = drain.0; fill = fill.0 }, fill.1)

abbrev pub disks_of : Bool → List Line → LineRead (List ℕ)
disks_of is_new lines = if is_new then several Disks 4 (codes "disk") (λ found. number 1 8) [] lines else Ok ([], lines)

abbrev pub Item : Type 0
Item = ℕ × (ℕ × Event)

abbrev pub events_of : Bool → List Line → LineRead (List Item)
events_of is_new lines = if is_new then several Events 4096 (codes "event") event [] lines else Ok ([], lines)

-- the lines that may come several times; `disk` and `event` are of version 3
abbrev pub header_of : Required → Optional → List Format → List ℕ → Header
header_of required optional recorders disks = record {
  version = required.version;
  rate = required.rate;
  period = required.period;
  capture = required.capture;
  playback = required.playback;
  bits = required.bits;
  threads = required.threads;
  steal = required.steal;
  ring = optional.ring;
  drain = optional.drain;
  fill = optional.fill;
  recorders = recorders;
  disks = disks;
}

abbrev pub front_of : ℕ → List Line → LineRead (Header × List Item)
front_of end lines = do
  required ← required_of end lines
  optional ← optional_of (required.0.version == 3) required.1
  recorders ← several Recorders 4 (codes "recorder") (recorder required.0.rate) [] optional.1
  disks ← disks_of (required.0.version == 3) recorders.1
  events ← events_of (required.0.version == 3) disks.1
  Ok ((header_of required.0 optional.0 recorders.0 disks.0, events.0), events.1)

-- an event line, where the frames of the lists' last events are given
abbrev pub event_behind : List ℕ → Reader Item
event_behind last words = do
  list ← number 0 15 words
  frame ← number 0 2147483647 list.1
  risen ← ranged (pos (slice_index last list.0)) (pos 2147483647) (pos frame.0)
  event ← midi frame.1
  Ok ((list.0, (frame.0, event.0)), event.1)
