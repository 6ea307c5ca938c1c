-- Where a session stands between its calls.
--     IsAttaching sounding parts      it is new but for its stores, of which so many are attached
--     IsReady sounding parts      all are attached
--     HasRun sounding parts      it was run, with Ok
--     HasEnded sounding parts      it was ended, with Ok
use Rattle.std.specs.Prelude.{◌≡◌, ℕ, suc, ◌<◌, ◌≤◌, false, [], length, map, slice_get, slice_index_or, zero, All, Option, None, Some, IsNone}
use Rattle.jack_types.specs.Recorders.{no_format}
use Rattle.jack_types.specs.declared.files.Format.{Format}
use Rattle.session_model.specs.Grammar.{IsScript}
use Rattle.session_model.specs.Kinds.{Sound}
use Rattle.session_model.specs.Scripts.{phases}
use Rattle.client_kinds.specs.Scores.{Score}
use Rattle.driver_words.specs.Tapes.{HasSamples, Tape}
use Rattle.session_works.specs.Drivers.{playback_format}
use Rattle.recorder_files.specs.Recorders.{Recording}
use Rattle.run_laws.specs.Runs.{RanPhases}
use Rattle.run_laws.specs.SerialRuns.{SerialBehind}
use Rattle.run_laws.specs.Told.{IsNew}
use Rattle.serial_laws.specs.Openings.{AreFresh, bare}
use Rattle.serial_laws.specs.Steps.{IsSettled}
use Rattle.session_works.specs.Parts.{HasOpenFiles, Parts, session_of}

-- a file of this format without samples
pub record IsBegun (format : Format) (tape : Tape) : Type 0 where
  pub format_is : tape.format ≡ format
  pub samples : HasSamples tape []
  pub written : tape.written ≡ 0

-- of the places that are attached each has a begun file, and the others have none
pub record HasFile (place attached : ℕ) (format : Format) (file : Option Tape) : Type 0 where
  pub begun : place < attached → (tape : Tape) × (file ≡ Some tape) × IsBegun format tape
  pub none : attached ≤ place → file ≡ None

-- the playback is at place 0, and recorder i at place i + 1
pub record IsAttaching (sounding : Score → Sound) (parts : Parts) : Type 0 where
  pub served : IsScript parts.gear.script
  pub new : IsNew (bare (session_of sounding parts))
  pub fresh : AreFresh (session_of sounding parts)
  pub formats : map (λ (r : Recording). r.format) parts.recorders ≡ parts.gear.script.header.recorders
  pub playback : HasFile 0 parts.attached (playback_format parts.gear.script) parts.gear.playback
  pub records : (i : ℕ) (r : Recording) → slice_get parts.recorders i ≡ Some r → HasFile (suc i) parts.attached r.format r.tape
  pub no_playback : parts.playback ≡ None
  pub no_stores : All (λ (r : Recording). r.store ≡ None) parts.recorders

-- the format of the file that is attached next
abbrev pub format_at : ℕ → Parts → Format
format_at zero parts = playback_format parts.gear.script
format_at (suc recorder) parts = slice_index_or parts.gear.script.header.recorders recorder no_format

abbrev pub format_next : Parts → Format
format_next parts = format_at parts.attached parts

-- the playback and each recorder have their stores
abbrev pub IsReady : (sounding : Score → Sound) → Parts → Type 0
IsReady sounding parts = IsAttaching sounding parts × (parts.attached ≡ suc (length parts.recorders))

pub record HasRun (sounding : Score → Sound) (parts : Parts) : Type 0 where
  pub served : IsScript parts.gear.script
  pub settled : IsSettled (session_of sounding parts)
  pub ran : RanPhases (session_of sounding parts) (length (phases parts.gear.script))
  pub serial : IsNone parts.gear.script.header.threads → SerialBehind (session_of sounding parts) (length (phases parts.gear.script))
  pub files : HasOpenFiles parts

pub record HasEnded (sounding : Score → Sound) (parts : Parts) : Type 0 where
  pub served : IsScript parts.gear.script
  pub ran : RanPhases (session_of sounding parts) (length (phases parts.gear.script))
  pub sound : parts.gear.failed ≡ false
