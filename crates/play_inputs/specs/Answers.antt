-- What a status says of the files of a play.
--     ForPlay, ForRehearsal, ForCheck      of what the words name
--     IsEarly, IsLate status      it comes before any file is made; it may come behind
--     IsDoneOrNoMemory status      all was done, or want of memory
--     HasLine status      a line of the fault is put out
--     HasOwnFault status      what a refusal tells is a fault of the bytes, and no want of memory and no read that failed
--     IfScript, IfCapture, IfDisks      the files and the names fit, up to the script, the capture or the disk files
--     IsUnfitDisk files scores play status      what stands against the first disk file that does not fit
--     PlayStatus files scores play status      what the bytes of the files have where it is answered
--     IfInput files scores play      where the files are told, they give what a play is given
--     HasInput, HasRefusal      where the host tells its files: what a play must answer
--     LacksInput files scores play      a name that a step opens is not there
use Rattle.std.specs.Prelude.{◌≡◌, ◌≢◌, ◌⊎◌, ℕ, List, length, ⊤, Option, Some, None}
use Rattle.jack_types.specs.declared.files.WaveFault.{WaveFault}
use Rattle.jack_types.specs.declared.files.WaveFault.TheVariants.{Read}
use Rattle.jack_types.specs.declared.scripts.Cause.TheVariants.{Memory}
use Rattle.jack_types.specs.declared.scripts.ScriptFault.{ScriptFault}
use Rattle.jack_host.specs.Files.{IsThere}
use Rattle.session_model.specs.Explanations.{Given}
use Rattle.session_model.specs.Kinds.{Sound}
use Rattle.session_model.specs.Scripts.{Script}
use Rattle.play_words.specs.Checks.{Check, IsCheck}
use Rattle.play_words.specs.Rehearsals.{IsRehearse}
use Rattle.play_words.specs.Words.{IsPlay, Play}
use Rattle.disk_inputs.specs.declared.faults.Against.{Against}
use Rattle.disk_inputs.specs.Openings.{IsFirstUnfit, LacksDisk}
use Rattle.play_inputs.specs.declared.status.Difference.{Difference}
use Rattle.play_inputs.specs.declared.status.Status.{Status}
use Rattle.play_inputs.specs.declared.status.Status.TheVariants.{Ok, NoMemory, Words, ReadFault, BadWave, BadScript, WriteFault, Differs, Wrong}
use Rattle.play_inputs.specs.Inputs.{Files, HasCapture, IfBytes, IfBytesAll, IsBadScript, IsBadWave, IsDifferent, IsInput, IsScriptOf, first_difference}
use Rattle.play_inputs.specs.Disks.{status_of_against}

abbrev pub ForPlay : List (List ℕ) → (Play → Type 0) → Type 0
ForPlay words P = (play : Play) → IsPlay words play → P play

abbrev pub ForRehearsal : List (List ℕ) → (ℕ → Type 0) → Type 0
ForRehearsal words P = (number : ℕ) → IsRehearse words number → P number

abbrev pub ForCheck : List (List ℕ) → (Check → Type 0) → Type 0
ForCheck words P = (check : Check) → IsCheck words check → P check

abbrev pub IsDoneOrNoMemory : Status → Type 0
IsDoneOrNoMemory status = (status ≡ Ok) ⊎ (status ≡ NoMemory)

abbrev pub IsLate : Status → Type 0
IsLate status = (status ≡ ReadFault) ⊎ (status ≡ WriteFault)

abbrev pub IsEarly : Status → Type 0
IsEarly Ok = ⊥
IsEarly NoMemory = ⊤
IsEarly Words = ⊤
IsEarly ReadFault = ⊥
IsEarly (BadWave fault) = ⊤
IsEarly (BadScript fault) = ⊤
IsEarly WriteFault = ⊥
IsEarly (Differs difference) = ⊤
IsEarly (Wrong row sight) = ⊤

abbrev pub HasLine : Status → Type 0
HasLine Ok = ⊥
HasLine NoMemory = ⊥
HasLine Words = ⊤
HasLine ReadFault = ⊤
HasLine (BadWave fault) = ⊤
HasLine (BadScript fault) = ⊤
HasLine WriteFault = ⊥
HasLine (Differs difference) = ⊤
HasLine (Wrong row sight) = ⊥

abbrev pub IsScriptFault : ScriptFault → Type 0
IsScriptFault fault = fault.cause ≢ Memory

abbrev pub IsWaveFault : WaveFault → Type 0
IsWaveFault fault = fault ≢ Read

abbrev pub HasOwnFault : Status → Type 0
HasOwnFault Ok = ⊤
HasOwnFault NoMemory = ⊤
HasOwnFault Words = ⊤
HasOwnFault ReadFault = ⊤
HasOwnFault (BadWave fault) = IsWaveFault fault
HasOwnFault (BadScript fault) = IsScriptFault fault
HasOwnFault WriteFault = ⊤
HasOwnFault (Differs difference) = ⊤
HasOwnFault (Wrong row sight) = ⊤

-- the bytes spell a script, and this holds of it
abbrev pub IfScript : Option Files → Play → (Script → Type 0) → Type 0
IfScript files play P = IfBytes files play.script (λ bytes. (script : Script) × IsScriptOf bytes script × P script)

-- nothing differs that needs no capture, and this holds of the capture's bytes
abbrev pub IfCapture : Option Files → List Sound → Play → (Script → List ℕ → Type 0) → Type 0
IfCapture files scores play P =
    IfScript files play (λ script. (first_difference script (length scores) (length play.records) (length play.disks) ≡ None) × IfBytes files play.capture (P script))

-- the capture fits too, and this holds of the script
abbrev pub IfDisks : Option Files → List Sound → Play → (Script → Type 0) → Type 0
IfDisks files scores play P = IfCapture files scores play (λ script bytes. HasCapture bytes script.header × P script)

-- a disk file does not fit, the first of such, and this is the status of what stands against it
abbrev pub IsUnfitDisk : Option Files → List Sound → Play → Status → Type 0
IsUnfitDisk files scores play status =
    (place : ℕ) × (against : Against) × (status_of_against against ≡ status)
    × IfDisks files scores play (λ script. IsFirstUnfit files play.disks script.header.rate script.header.disks place against)

-- the first comparison that fails: one that needs no file but the script, one with the capture, or one with a disk file
abbrev pub IsFirstDifference : Option Files → List Sound → Play → Difference → Type 0
IsFirstDifference files scores play difference =
    IfScript files play (λ script. first_difference script (length scores) (length play.records) (length play.disks) ≡ Some difference)
    ⊎ (IfCapture files scores play (λ script bytes. IsDifferent bytes script.header difference)
    ⊎ IsUnfitDisk files scores play (Differs difference))

-- the capture has this fault, or the first disk file that does not fit
abbrev pub IsFirstBadWave : Option Files → List Sound → Play → WaveFault → Type 0
IsFirstBadWave files scores play fault =
    IfCapture files scores play (λ script bytes. IsBadWave bytes fault) ⊎ IsUnfitDisk files scores play (BadWave fault)

abbrev pub PlayStatus : Option Files → List Sound → Play → Status → Type 0
PlayStatus files scores play Ok = ⊥
PlayStatus files scores play NoMemory = ⊤
PlayStatus files scores play Words = ⊥
PlayStatus files scores play ReadFault = ⊤
PlayStatus files scores play (BadWave fault) = IsFirstBadWave files scores play fault
PlayStatus files scores play (BadScript fault) = IfBytes files play.script (λ bytes. IsBadScript bytes fault)
PlayStatus files scores play WriteFault = ⊤
PlayStatus files scores play (Differs difference) = IsFirstDifference files scores play difference
PlayStatus files scores play (Wrong row sight) = ⊥

-- the files, the guests and the names fit one another
abbrev pub IfInput : Option Files → List Sound → Play → Type 0
IfInput files scores play =
    IfBytes files play.script (λ script_bytes. IfBytes files play.capture (λ capture_bytes. IfBytesAll files play.disks (λ disk_bytes.
    (given : Given) × IsInput script_bytes capture_bytes disk_bytes scores play given)))

-- the files are a script, a capture and disk files that fit it, and so do guests and names
abbrev pub HasInput : Option Files → List Sound → Play → Type 0
HasInput None scores play = ⊥
HasInput (Some files) scores play = IfInput (Some files) scores play

-- their bytes have the refusal of this status
abbrev pub HasRefusal : Option Files → List Sound → Play → Status → Type 0
HasRefusal None scores play status = ⊥
HasRefusal (Some files) scores play Ok = ⊥
HasRefusal (Some files) scores play NoMemory = ⊥
HasRefusal (Some files) scores play Words = ⊥
HasRefusal (Some files) scores play ReadFault = ⊥
HasRefusal (Some files) scores play (BadWave fault) = PlayStatus (Some files) scores play (BadWave fault)
HasRefusal (Some files) scores play (BadScript fault) = PlayStatus (Some files) scores play (BadScript fault)
HasRefusal (Some files) scores play WriteFault = ⊥
HasRefusal (Some files) scores play (Differs difference) = PlayStatus (Some files) scores play (Differs difference)
HasRefusal (Some files) scores play (Wrong row sight) = ⊥

-- script and capture fit, and the name of a disk file is not there, behind disk files that fit
abbrev pub LacksDiskFile : Option Files → List Sound → Play → Type 0
LacksDiskFile None scores play = ⊥
LacksDiskFile (Some files) scores play = IfDisks (Some files) scores play (λ script. LacksDisk (Some files) play.disks script.header.rate script.header.disks)

-- the script is not there; or nothing differs that needs no other file, and the capture is not there; or a disk file is not
abbrev pub LacksInput : Option Files → List Sound → Play → Type 0
LacksInput files scores play =
    (¬ IsThere files play.script)
    ⊎ ((IfScript files play (λ script. first_difference script (length scores) (length play.records) (length play.disks) ≡ None) × (¬ IsThere files play.capture))
    ⊎ LacksDiskFile files scores play)
