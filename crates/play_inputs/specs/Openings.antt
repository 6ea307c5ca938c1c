-- What was read before a session or a check is made.
--     GivesInput files scores play script left lefts      the files give a play this script, and a capture and disk files with these samples
--     FittingStatus files play guests script status      what a status says that ended the comparisons, or the opening of the capture
--     OpeningStatus files scores play status      what a status says that ended the reading
use Rattle.std.specs.Prelude.{◌≡◌, ◌⊎◌, ℕ, ℤ, List, length, map, ⊤, Option, Some, None}
use Rattle.session_model.specs.Courses.{DiskFile}
use Rattle.session_model.specs.Explanations.{Given}
use Rattle.session_model.specs.Kinds.{Sound}
use Rattle.session_model.specs.Scripts.{Script}
use Rattle.play_words.specs.Words.{Play}
use Rattle.play_inputs.specs.declared.status.Difference.{Difference}
use Rattle.play_inputs.specs.declared.status.Status.{Status}
use Rattle.play_inputs.specs.declared.status.Status.TheVariants.{Ok, NoMemory, Words, ReadFault, BadWave, BadScript, WriteFault, Differs, Wrong}
use Rattle.play_inputs.specs.Answers.{PlayStatus}
use Rattle.play_inputs.specs.Captures.{CaptureStatus}
use Rattle.play_inputs.specs.Inputs.{Files, IfBytes, IfBytesAll, IsInput, first_difference}

-- where they are told
abbrev pub GivesInput : Option Files → List Sound → Play → Script → Option (List ℤ) → List (Option (List ℤ)) → Type 0
GivesInput files scores play script left lefts =
    IfBytes files play.script (λ script_bytes. IfBytes files play.capture (λ capture_bytes. IfBytesAll files play.disks (λ disk_bytes.
    (given : Given) × IsInput script_bytes capture_bytes disk_bytes scores play given × (given.script ≡ script) × (left ≡ Some given.capture)
    × (lefts ≡ map (λ (file : DiskFile). Some file.samples) given.disks))))

-- the script and what it is played with differ before a file is opened, or the capture is refused
abbrev pub FittingStatus : Option Files → Play → ℕ → Script → Status → Type 0
FittingStatus files play guests script status =
    ((difference : Difference) × (status ≡ Differs difference) × (first_difference script guests (length play.records) (length play.disks) ≡ Some difference))
    ⊎ ((first_difference script guests (length play.records) (length play.disks) ≡ None) × CaptureStatus files play.capture script.header status)

abbrev pub OpeningStatus : Option Files → List Sound → Play → Status → Type 0
OpeningStatus files scores play Ok = ⊥
OpeningStatus files scores play NoMemory = ⊤
OpeningStatus files scores play Words = ⊥
OpeningStatus files scores play ReadFault = ⊤
OpeningStatus files scores play (BadWave fault) = PlayStatus files scores play (BadWave fault)
OpeningStatus files scores play (BadScript fault) = PlayStatus files scores play (BadScript fault)
OpeningStatus files scores play WriteFault = ⊥
OpeningStatus files scores play (Differs difference) = PlayStatus files scores play (Differs difference)
OpeningStatus files scores play (Wrong row sight) = ⊥
