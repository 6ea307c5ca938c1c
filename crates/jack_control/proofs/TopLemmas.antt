-- What a play leaves and was given, behind what was opened before it.
use Rattle.std.proofs.Common.{◌≡◌, ℕ, List, subst}
use Rattle.std.specs.Prelude.{Option}
use Rattle.jack_types.specs.declared.replies.Row.{Row}
use Rattle.check_sights.specs.declared.sights.Sight.{Sight}
use Rattle.session_model.specs.Explanations.{Given}
use Rattle.session_model.specs.Kinds.{Sound}
use Rattle.client_kinds.specs.Scores.{Score}
use Rattle.play_words.specs.Words.{Play}
use Rattle.run_laws.specs.Sessions.{IsGiven as TellsGiven}
use Rattle.session_run.specs.Seen.{Parts, session_of}
use Rattle.play_inputs.specs.Inputs.{Files, IfBytes, IfBytesAll, IsInput}
use Rattle.play_inputs.specs.declared.status.Status.{Status}
use Rattle.play_inputs.specs.declared.status.Status.TheVariants.{Words, Wrong}
use Rattle.play_inputs.specs.Answers.{IfInput, PlayStatus}
use Rattle.jack_control.specs.Rehearsals.{IsRehearsed}
use Rattle.jack_control.specs.Openings.{IsSessionOf}
use Rattle.play_inputs.proofs.DiskLemmas.{all-map}
use Rattle.play_inputs.proofs.InputLemmas.{if_bytes_map}

-- what a session was opened with
pub input-of : (sounding : Score → Sound) (files : Option Files) (scores : List Sound) (play : Play) (parts : Parts) → IsSessionOf sounding files scores play parts → IfInput files scores play
input-of sounding files scores play parts is =
    if_bytes_map files play.script (λ script_bytes. IfBytes files play.capture (λ capture_bytes. IfBytesAll files play.disks (Tells script_bytes capture_bytes)))
    (λ script_bytes. IfBytes files play.capture (λ capture_bytes. IfBytesAll files play.disks (Fits script_bytes capture_bytes)))
    (λ script_bytes. if_bytes_map files play.capture (λ capture_bytes. IfBytesAll files play.disks (Tells script_bytes capture_bytes)) (λ capture_bytes. IfBytesAll files play.disks (Fits script_bytes capture_bytes))
    (λ capture_bytes. all-map files play.disks (Tells script_bytes capture_bytes) (Fits script_bytes capture_bytes) (λ disk_bytes has. (has.0, has.1))))
    is.given
  where
    Tells : List ℕ → List ℕ → List (List ℕ) → Type 0
    Tells script_bytes capture_bytes disk_bytes = (given : Given) × IsInput script_bytes capture_bytes disk_bytes scores play given × TellsGiven (session_of sounding parts) given

    Fits : List ℕ → List ℕ → List (List ℕ) → Type 0
    Fits script_bytes capture_bytes disk_bytes = (given : Given) × IsInput script_bytes capture_bytes disk_bytes scores play given

-- a play is never answered by a wrong part, and words that are refused neither
pub play-not-wrong : (files : Option Files) (scores : List Sound) (play : Play) (status : Status) (row : Row) (sight : Sight) → status ≡ Wrong row sight → PlayStatus files scores play status → ⊥
play-not-wrong files scores play status row sight e is = subst (PlayStatus files scores play) e is

pub wrong-not-words : (row : Row) (sight : Sight) → Wrong row sight ≡ Words → ⊥
wrong-not-words row sight e = cc

-- nor is a rehearsal
pub rehearsal-not-wrong : (n : ℕ) (out out_after : Option (List ℕ)) (faults faults_after : ℕ) (status : Status) (row : Row) (sight : Sight) → status ≡ Wrong row sight → IsRehearsed n out out_after faults faults_after status → ⊥
rehearsal-not-wrong n out out_after faults faults_after status row sight e is = subst (IsRehearsed n out out_after faults faults_after) e is
