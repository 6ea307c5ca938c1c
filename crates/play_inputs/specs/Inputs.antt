-- What a play is given by its files.
--     IfBytes files name P, IfBytesAll files names P      what holds of a name's bytes, and of those of all names, where the files are told
--     IsScriptOf bytes script, IsBadScript bytes fault      the bytes of a file spell this script, or have this fault
--     first_difference, difference_in      the comparisons, in their order
--     IsCapture bytes header samples, HasCapture bytes header      the bytes are those of a capture that fits the script
--     IsInput script_bytes capture_bytes disk_bytes scores play given      what the files and the guests give
--     IsBadWave, IsDifferent      what the bytes of a capture have against them
use Rattle.std.specs.Prelude.{◌≡◌, ℕ, ◌==◌, nat_lt, not, List, length, take, ℤ, Option, Some, None, Ok, Err, if◌then◌else◌}
use Rattle.jack_types.specs.declared.files.Format.{Format}
use Rattle.jack_types.specs.declared.files.WaveFault.{WaveFault}
use Rattle.jack_types.specs.declared.scripts.Header.{Header}
use Rattle.jack_types.specs.declared.scripts.ScriptFault.{ScriptFault}
use Rattle.session_model.specs.Explanations.{Given}
use Rattle.session_model.specs.Grammar.{Spells}
use Rattle.session_model.specs.Kinds.{Sound}
use Rattle.session_model.specs.Reading.{script_fault}
use Rattle.session_model.specs.Scripts.{Script}
use Rattle.session_model.specs.WaveFiles.{IsWave, wave_fault}
use Rattle.session_model.specs.WaveOpening.{Opened, opened, wave_in}
use Rattle.script_needs.specs.task_laws.specs.Calls.{guests_needed}
use Rattle.wave_pcm.specs.Readings.{AreBytes}
use Rattle.disk_inputs.specs.DiskFiles.{AreDiskFiles}
pub use Rattle.disk_inputs.specs.Openings.{Files, IfBytes, IfBytesAll}
use Rattle.play_words.specs.Words.{Play}
use Rattle.play_inputs.specs.declared.status.Difference.{Difference}
use Rattle.play_inputs.specs.declared.status.What.TheVariants.{Guests, Records, Disks, Rate, Channels}

-- 1,048,577 bytes are read at most, and they spell this script
abbrev pub IsScriptOf : List ℕ → Script → Type 0
IsScriptOf bytes script = Spells (take 1048577 bytes) script

-- or they have this fault
abbrev pub IsBadScript : List ℕ → ScriptFault → Type 0
IsBadScript bytes fault = script_fault (take 1048577 bytes) ≡ Some fault

-- the first of the comparisons that need no capture: guests, recorders' files, disk files
abbrev pub first_difference : Script → ℕ → ℕ → ℕ → Option Difference
first_difference script guests records disks =
    if nat_lt guests (guests_needed script) then Some (record { what = Guests; script = guests_needed script; given = guests })
    else if not (length script.header.recorders == records) then Some (record { what = Records; script = length script.header.recorders; given = records })
    else if not (length script.header.disks == disks) then Some (record { what = Disks; script = length script.header.disks; given = disks })
    else None

-- and of those with the capture's format
abbrev pub difference_in : Header → Format → Option Difference
difference_in header format =
    if not (header.rate == format.rate) then Some (record { what = Rate; script = header.rate; given = format.rate })
    else if not (header.capture == format.channels) then Some (record { what = Channels; script = header.capture; given = format.channels })
    else None

-- the capture's bytes are a wave that fits the script, and these are its samples
pub record IsCapture (bytes : List ℕ) (header : Header) (samples : List ℤ) : Type 0 where
  pub told : Opened
  pub opens : opened bytes ≡ Ok told
  pub wave : AreBytes bytes → IsWave bytes told.format samples
  pub samples_are : samples ≡ wave_in told
  pub fits : difference_in header told.format ≡ None

abbrev pub HasCapture : List ℕ → Header → Type 0
HasCapture bytes header = (samples : List ℤ) × IsCapture bytes header samples

-- the files, the guests and the names fit one another
pub record IsInput (script_bytes capture_bytes : List ℕ) (disk_bytes : List (List ℕ)) (scores : List Sound) (play : Play) (given : Given) : Type 0 where
  pub script : IsScriptOf script_bytes given.script
  pub fits : first_difference given.script (length scores) (length play.records) (length play.disks) ≡ None
  pub capture : IsCapture capture_bytes given.script.header given.capture
  pub disks : AreDiskFiles disk_bytes given.script.header.rate given.script.header.disks given.disks
  pub scores_are : given.scores ≡ scores

-- the bytes of a capture have this fault
abbrev pub IsBadWave : List ℕ → WaveFault → Type 0
IsBadWave bytes fault = (opened bytes ≡ Err fault) × (AreBytes bytes → wave_fault bytes ≡ Some fault)

-- the capture's bytes are a wave whose format differs from the script's numbers
abbrev pub IsDifferent : List ℕ → Header → Difference → Type 0
IsDifferent bytes header difference = (told : Opened) × (opened bytes ≡ Ok told) × (difference_in header told.format ≡ Some difference)
