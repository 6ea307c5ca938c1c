-- What a play leaves.
--     IsExplained files new out out_after scores play      an ended play: what is written is explained by the one history that is printed
--     PlaybackInSerial, RecordInSerial      fronts of what serial mode gives
--     PlaybackSoFar, RecordSoFar      fronts of what so many cycles of a history gave
--     IsPlayCut ..      one that failed: what its files hold
--     IsOutCut ..      what stands on the sink where a file or the report could not be written
use Rattle.std.specs.Prelude.{◌≡◌, ◌⊎◌, ℕ, suc, ◌+◌, ◌<◌, ◌≤◌, ◌∷◌, List, [], length, map, slice_get, take, ⊤, Option, Some, None, IsNone, IsSome, Contains}
use Rattle.jack_host.specs.Bytes.{Gains}
use Rattle.jack_host.specs.Causes.{Rose}
use Rattle.jack_host.specs.Files.{bytes_under, SameFiles}
use Rattle.jack_host.specs.Told.{BothTold}
use Rattle.session_model.specs.Explanations.{Explained, Given, Printed, Written, course_of, overruns_of}
use Rattle.session_model.specs.Kinds.{Sound}
use Rattle.session_model.specs.Playback.{playback_format, played_back}
use Rattle.session_model.specs.Recorders.{recorded, recorder_format}
use Rattle.session_model.specs.Serial.{serial_overruns, serial_printed}
use Rattle.driver_words.specs.Tapes.{HasAnyFront}
use Rattle.session_model.specs.Rings.{samples_of_blocks}
use Rattle.driver_laws.specs.Keeping.{kept_blocks, played_so_far}
use Rattle.serial_laws.specs.Faults.{serial_course_of}
use Rattle.session_run.specs.Seen.{HasCome}
use Rattle.play_words.specs.Words.{Play}
use Rattle.play_inputs.specs.Inputs.{Files, IsInput}

-- the files that a play makes: the playback and then the recorders'
abbrev pub made_by : Play → List (List ℕ)
made_by play = play.playback ∷ play.records

-- every other name has the bytes that it had
abbrev pub TouchesOnly : Option Files → Option Files → List (List ℕ) → Type 0
TouchesOnly old new names = BothTold old new (λ before after. (name : List ℕ) → (Contains names name → ⊥) → bytes_under after name ≡ bytes_under before name)

-- what the files spell, and what was written: the files and the report that the one history explains that is printed; in serial mode it is that of serial mode
pub record Plays (files new : Files) (out out_after : Option (List ℕ)) (scores : List Sound) (play : Play) : Type 0 where
  pub script_bytes : List ℕ
  pub capture_bytes : List ℕ
  pub disk_bytes : List (List ℕ)
  pub script_is : bytes_under files play.script ≡ Some script_bytes
  pub capture_is : bytes_under files play.capture ≡ Some capture_bytes
  pub disks_are : map (bytes_under files) play.disks ≡ map Some disk_bytes
  pub given : Given
  pub input : IsInput script_bytes capture_bytes disk_bytes scores play given
  pub printed : Printed
  pub serial : IsNone given.script.header.threads → printed ≡ serial_printed given
  pub written : Written
  pub explained : Explained given printed written
  pub playback_is : bytes_under new play.playback ≡ Some written.playback
  pub records_are : map (bytes_under new) play.records ≡ map Some written.records
  pub report_is : Gains out out_after written.report

abbrev pub IsExplained : Option Files → Option Files → Option (List ℕ) → Option (List ℕ) → List Sound → Play → Type 0
IsExplained None new out out_after scores play = ⊤
IsExplained (Some files) None out out_after scores play = ⊥
IsExplained (Some files) (Some new) out out_after scores play = Plays files new out out_after scores play

-- the name at a place of those that a play makes, where the first so many were made: it was made, and has a front of its file; or it has the bytes that it had, and one that was made then was there before
abbrev pub IsMadeOrKept : (Option (List ℕ) → Type 0) → ℕ → ℕ → Files → Files → List ℕ → Type 0
IsMadeOrKept P made place files new name =
    ((place < made) × (bytes : List ℕ) × (bytes_under new name ≡ Some bytes) × P (Some bytes)) ⊎ ((place < made → IsSome (bytes_under files name)) × (bytes_under new name ≡ bytes_under files name))

-- the first so many were made: the playback, and then the records in their order
pub record AreMadeInOrder (played : Option (List ℕ) → Type 0) (recorded : ℕ → Option (List ℕ) → Type 0) (files new : Files) (play : Play) : Type 0 where
  pub made : ℕ
  pub playback : IsMadeOrKept played made 0 files new play.playback
  pub records : (recorder : ℕ) (name : List ℕ) → slice_get play.records recorder ≡ Some name → IsMadeOrKept (recorded recorder) made (suc recorder) files new name

-- a front of the playback of serial mode
abbrev pub PlaybackInSerial : Given → Option (List ℕ) → Type 0
PlaybackInSerial given = HasAnyFront (playback_format (serial_course_of given)) (played_back (serial_course_of given))

-- or of a recorder's file
abbrev pub RecordInSerial : Given → ℕ → Option (List ℕ) → Type 0
RecordInSerial given recorder =
    HasAnyFront (recorder_format (serial_course_of given) recorder) (recorded (serial_course_of given) (serial_overruns given.script recorder) recorder)

-- a front of what so many cycles played, by the one computation over a history
abbrev pub PlaybackSoFar : Given → Printed → ℕ → Option (List ℕ) → Type 0
PlaybackSoFar given printed kept = HasAnyFront (playback_format (course_of given printed)) (played_so_far (course_of given printed) kept)

-- or of the blocks that a recorder kept of them
abbrev pub RecordSoFar : Given → Printed → ℕ → ℕ → Option (List ℕ) → Type 0
RecordSoFar given printed kept recorder =
    HasAnyFront (recorder_format (course_of given printed) recorder) (samples_of_blocks (kept_blocks (course_of given printed) (overruns_of printed recorder) recorder kept))

-- how far a play came: calls and cycles that the script allows, and how many of the cycles were played, all but the last at least
pub record CameTo (given : Given) (printed : Printed) (kept : ℕ) : Type 0 where
  pub come : HasCome given.script printed.history printed.numbers
  pub low : kept ≤ length printed.numbers
  pub near : length printed.numbers ≤ kept + 1

-- with threads: fronts of what the play's own history gave, as far as it came
pub record CutsSoFar (given : Given) (files new : Files) (play : Play) : Type 0 where
  pub printed : Printed
  pub kept : ℕ
  pub came : CameTo given printed kept
  pub fronts : AreMadeInOrder (PlaybackSoFar given printed kept) (RecordSoFar given printed kept) files new play

-- what stands behind a fault that came when the files were made, or later; in serial mode fronts of the files of that
pub record Cuts (files new : Files) (scores : List Sound) (play : Play) : Type 0 where
  pub script_bytes : List ℕ
  pub capture_bytes : List ℕ
  pub disk_bytes : List (List ℕ)
  pub script_is : bytes_under files play.script ≡ Some script_bytes
  pub capture_is : bytes_under files play.capture ≡ Some capture_bytes
  pub disks_are : map (bytes_under files) play.disks ≡ map Some disk_bytes
  pub given : Given
  pub input : IsInput script_bytes capture_bytes disk_bytes scores play given
  pub serial : IsNone given.script.header.threads → AreMadeInOrder (PlaybackInSerial given) (RecordInSerial given) files new play
  pub so_far : IsSome given.script.header.threads → CutsSoFar given files new play

-- nothing was made, or this
abbrev pub IsPlayCut : Option Files → Option Files → List Sound → Play → Type 0
IsPlayCut None new scores play = ⊤
IsPlayCut (Some files) None scores play = ⊥
IsPlayCut (Some files) (Some new) scores play = SameFiles (Some files) (Some new) ⊎ Cuts files new scores play

-- the sink has a front of the report that explains what the play left: its files are whole, as the report would have told
pub record PutsFront (files new : Option Files) (out out_after : Option (List ℕ)) (scores : List Sound) (play : Play) : Type 0 where
  pub report : List ℕ
  pub explained : IsExplained files new (Some []) (Some report) scores play
  pub front : ℕ
  pub puts : Gains out out_after (take front report)

-- the sink is as it was, or its count rose and it has a front of the report
abbrev pub IsOutCut : Option Files → Option Files → Option (List ℕ) → Option (List ℕ) → ℕ → ℕ → List Sound → Play → Type 0
IsOutCut files new out out_after faults faults_after scores play = Gains out out_after [] ⊎ (Rose faults faults_after × PutsFront files new out out_after scores play)
