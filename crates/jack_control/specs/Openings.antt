-- A session as a play opens it. No public clause cites this module.
--     IsSessionOf files scores play parts      its script, its capture, its disk files and its guests are what the files and the guests give
--     faults_in players      how many reads of disk files failed
--     AreFaultless players      none did
--     NoFaults parts      none of a session's sources
use Rattle.std.specs.Prelude.{◌≡◌, ℕ, List, [], length, slice_get, sum_by, Option, Some}
use Rattle.session_model.specs.Explanations.{Given}
use Rattle.session_model.specs.Kinds.{Sound}
use Rattle.client_kinds.specs.Scores.{Score}
use Rattle.play_words.specs.Words.{Play}
use Rattle.run_laws.specs.Sessions.{IsGiven as TellsGiven}
use Rattle.session_run.specs.Seen.{Parts, Playing, session_of, stores_in}
use Rattle.session_run.specs.Standings.{IsAttaching}
use Rattle.play_inputs.specs.Inputs.{Files, IfBytes, IfBytesAll, IsInput}

-- no store is attached, and there are as many recorders as files that are named for them
pub record IsSessionOf (sounding : Score → Sound) (files : Option Files) (scores : List Sound) (play : Play) (parts : Parts) : Type 0 where
  pub attaching : IsAttaching sounding parts
  pub none : parts.attached ≡ 0
  pub no_stores : stores_in parts ≡ []
  pub recorders : length parts.recorders ≡ length play.records
  pub given : IfBytes files play.script (λ script_bytes. IfBytes files play.capture (λ capture_bytes. IfBytesAll files play.disks (λ disk_bytes.
      (given : Given) × IsInput script_bytes capture_bytes disk_bytes scores play given × TellsGiven (session_of sounding parts) given)))

abbrev pub faults_in : List Playing → ℕ
faults_in players = sum_by (λ (player : Playing). player.faults) players

abbrev pub AreFaultless : List Playing → Type 0
AreFaultless players = (disk : ℕ) (player : Playing) → slice_get players disk ≡ Some player → player.faults ≡ 0

pub record NoFaults (parts : Parts) : Type 0 where
  pub capture : parts.gear.capture.reading.faults ≡ 0
  pub disks : AreFaultless parts.players
