-- A session that was performed, whose files are still out. No public clause cites this module.
--     status_of_session fault      the status of its fault
--     HaveFronts front stores      a store that tells its bytes has a front at its place
--     HaveCut given printed stores      so all have behind a fault, in each mode
--     Explain given printed stores report      whatever bytes the stores have, what is printed explains them and the report
--     HasHistory files play history      in serial mode the history is that of serial mode, of the script that the files give
--     MadeSome old new names stores      so many of the names were made
--     CutsReport ended out out_after faults faults_after report      a report that was not put out, or not whole
use Rattle.std.specs.Prelude.{◌≡◌, ◌⊎◌, ℕ, zero, suc, List, [], ◌∷◌, map, take, slice_get, Option, Some, IsNone, IsSome}
use Rattle.jack_types.specs.declared.replies.Entry.{Entry}
use Rattle.jack_host.specs.Bytes.{Gains}
use Rattle.jack_host.specs.Causes.{Rose}
use Rattle.play_words.specs.Words.{Play}
use Rattle.session_model.specs.Explanations.{Explained, Given, Printed}
use Rattle.session_model.specs.Scripts.{Script}
use Rattle.session_model.specs.Serial.{serial}
use Rattle.recorder_files.specs.Recorders.{Stored}
use Rattle.session_run.specs.Faults.{SessionFault}
use Rattle.session_run.specs.Faults.{Read, Write}
use Rattle.play_inputs.specs.declared.status.Status.{Status}
use Rattle.play_inputs.specs.declared.status.Status.TheVariants.{ReadFault, WriteFault}
use Rattle.play_inputs.specs.Answers.{IfScript}
use Rattle.jack_control.specs.Files.{AreOut, Empties}
use Rattle.play_inputs.specs.Inputs.{Files}
use Rattle.jack_control.specs.Plays.{CameTo, PlaybackInSerial, PlaybackSoFar, RecordInSerial, RecordSoFar, TouchesOnly}

abbrev pub status_of_session : SessionFault → Status
status_of_session Read = ReadFault
status_of_session Write = WriteFault

-- the playback is at place 0, and recorder i at place i + 1
abbrev pub front_at : Given → ℕ → Option (List ℕ) → Type 0
front_at given zero = PlaybackInSerial given
front_at given (suc recorder) = RecordInSerial given recorder

abbrev pub front_so_far : Given → Printed → ℕ → ℕ → Option (List ℕ) → Type 0
front_so_far given printed kept zero = PlaybackSoFar given printed kept
front_so_far given printed kept (suc recorder) = RecordSoFar given printed kept recorder

abbrev pub HaveFronts : (ℕ → Option (List ℕ) → Type 0) → List Stored → Type 0
HaveFronts front stores = (place : ℕ) (store : Stored) → slice_get stores place ≡ Some store → front place store.bytes

pub record HaveCutSoFar (given : Given) (printed : Printed) (stores : List Stored) : Type 0 where
  pub kept : ℕ
  pub came : CameTo given printed kept
  pub fronts : HaveFronts (front_so_far given printed kept) stores

pub record HaveCut (given : Given) (printed : Printed) (stores : List Stored) : Type 0 where
  pub serial : IsNone given.script.header.threads → HaveFronts (front_at given) stores
  pub so_far : IsSome given.script.header.threads → HaveCutSoFar given printed stores

abbrev pub Explain : Given → Printed → List Stored → List ℕ → Type 0
Explain given printed stores report =
    (playback : List ℕ) (records : List (List ℕ)) → map (λ (store : Stored). store.bytes) stores ≡ Some playback ∷ map Some records
    → Explained given printed (record { playback = playback; records = records; report = report })

-- where the files are told
abbrev pub HasHistory : Option Files → Play → List Entry → Type 0
HasHistory files play history = IfScript files play (λ (script : Script). IsNone script.header.threads → history ≡ (serial script).history)

-- the first so many names were made, and their stores are out; these have no bytes yet, or still those that they had, and no other name is touched
pub record MadeSome (old new : Option Files) (names : List (List ℕ)) (stores : List Stored) : Type 0 where
  pub made : ℕ
  pub out : AreOut new (take made names) stores
  pub touches : TouchesOnly old new (take made names)
  pub empties : Empties old new

-- nothing was put out; or this holds, the sink's count rose, and it has a front of the report
abbrev pub CutsReport : Type 0 → Option (List ℕ) → Option (List ℕ) → ℕ → ℕ → List ℕ → Type 0
CutsReport ended out out_after faults faults_after report =
    Gains out out_after [] ⊎ (ended × Rose faults faults_after × ((front : ℕ) × Gains out out_after (take front report)))
