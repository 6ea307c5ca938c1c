-- The fields of the works. No public clause cites this module.
--     script_in noted      the script that was noted
--     gear_of script playback failed parts, seen_of works      their parts
--     IsWhole sounding works      what stays true of the fields
use Rattle.std.specs.Prelude.{◌≡◌, ◌≤◌, ⊤, Bool, false, List, [], length, slice_index_or, vec_capacity, Option, None}
use Rattle.session_model.specs.Scripts.{Script, turns}
use Rattle.session_model.specs.Kinds.{Sound}
use Rattle.client_kinds.specs.Scores.{Score}
use Rattle.driver_words.specs.Tapes.{Tape}
use Rattle.cycle_laws.specs.Gears.{Gear, IsGear}
use Rattle.cycle_works.specs.declared.parts.Parts.{Parts}
use Rattle.cycle_works.specs.declared.works.Works.TheInside.{Inside}

-- a script of nothing
abbrev no_script : Script
no_script = record {
  header = record { version = 0; rate = 0; period = 0; capture = 0; playback = 0; bits = 0; threads = None; steal = false; ring = 0; drain = 0; fill = 0; recorders = []; disks = [] };
  events = [];
  lines = [];
}

-- only proofs read the script
abbrev pub script_in : List (⊤ × Script) → Script
script_in noted = (slice_index_or noted 0 (tt, no_script)).1

abbrev pub gear_of : {S G : Type 0} → Script → Option Tape → Bool → Parts S G → Gear
gear_of script playback failed parts = record {
  script = script;
  reading = parts.reader.0;
  stage = parts.stage;
  capture = parts.capture;
  transport = parts.transport;
  numbers = parts.numbers.items;
  moments = parts.moments.items;
  rings = parts.rings;
  playback = playback;
  set = parts.set;
  failed = failed;
  events = parts.midi.heard;
  disks = parts.disks;
}

abbrev pub seen_of : {S G : Type 0} → Inside S G → Gear
seen_of works = gear_of (script_in works.script.items) None works.failed works.parts

-- there is room for a number and a moment of each cycle; MIDI clients are the script's, and played the plan that the stage played last
pub record IsWhole (sounding : Score → Sound) {S G : Type 0} (works : Inside S G) : Type 0 where
  pub gear : IsGear sounding (seen_of works)
  pub numbers : length (turns (seen_of works).script) ≤ vec_capacity works.parts.numbers
  pub moments : length (turns (seen_of works).script) ≤ vec_capacity works.parts.moments
  pub midi_script : works.parts.midi.script ≡ (seen_of works).script
  pub midi_changes : works.parts.midi.changes ≡ works.parts.stage.plan.changes
