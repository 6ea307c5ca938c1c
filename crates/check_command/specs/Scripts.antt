-- The scripts that are checked, those without a disk, and what a check of them is given.
--     HasNoDisk script      it has no disk
--     line_at bytes place      the number of a line among those that are said
--     undecided bytes      the fault of a lawful script that has one
--     IsUndecided bytes fault      the bytes spell such a script, and this is its fault
--     AreWithoutDisks bytes      they spell none
--     IsRefusedScript bytes fault      they have this fault, or are of such a script
--     RefusesScript bytes status, CheckScriptStatus files name status      what a status says of bytes, or of a file, that are no script that is checked
--     GivesCheck files scores play script left      the two files give a check this script, and a capture with these samples
--     CheckOpening files scores play status      what a status says that ended the reading
--     LacksPlay files scores play      a name that is opened so is not there
use Rattle.std.specs.Prelude.{◌≡◌, ◌⊎◌, ℕ, ℤ, List, [], map, slice_index_or, take, ⊤, Option, Some}
use Rattle.jack_types.specs.declared.scripts.Cause.TheVariants.{Choice}
use Rattle.jack_types.specs.declared.scripts.ScriptFault.{ScriptFault}
use Rattle.session_model.specs.Explanations.{Given}
use Rattle.session_model.specs.Grammar.{Spells}
use Rattle.session_model.specs.Kinds.{Sound}
use Rattle.session_model.specs.Scripts.{Script}
use Rattle.session_model.specs.Texts.{said}
use Rattle.play_words.specs.Words.{Play}
use Rattle.play_inputs.specs.declared.status.Status.{Status}
use Rattle.play_inputs.specs.declared.status.Status.TheVariants.{Ok, NoMemory, Words, ReadFault, BadWave, BadScript, WriteFault, Differs, Wrong}
use Rattle.jack_host.specs.Files.{IsThere}
use Rattle.play_inputs.specs.Answers.{LacksInput, PlayStatus}
use Rattle.play_inputs.specs.Inputs.{Files, IfBytes, IsBadScript, IsInput, IsScriptOf}
use Rattle.play_inputs.specs.Scripts.{RefusesBytes}

abbrev pub HasNoDisk : Script → Type 0
HasNoDisk script = script.header.disks ≡ []

-- the number of the line at a place among those that are said, counted from 0; 0 where there is none
abbrev pub line_at : List ℕ → ℕ → ℕ
line_at bytes place = slice_index_or (map (λ line. line.number) (said bytes)) place 0

-- on the version's line, which is the first that is said, its version, which is 3, since older ones have no disk
abbrev pub undecided : List ℕ → ScriptFault
undecided bytes = record { line = line_at bytes 0; cause = Choice 3 }

-- 1,048,577 bytes are read at most
abbrev pub IsUndecided : List ℕ → ScriptFault → Type 0
IsUndecided bytes fault = (script : Script) × IsScriptOf bytes script × (HasNoDisk script → ⊥) × (fault ≡ undecided (take 1048577 bytes))

abbrev pub AreWithoutDisks : List ℕ → Type 0
AreWithoutDisks bytes = (script : Script) → IsScriptOf bytes script → HasNoDisk script

-- the bytes have this fault, or are of a script with a disk
abbrev pub IsRefusedScript : List ℕ → ScriptFault → Type 0
IsRefusedScript bytes fault = IsBadScript bytes fault ⊎ IsUndecided bytes fault

-- the script of a play has no disk
abbrev pub IsWithoutDisks : Option Files → Play → Type 0
IsWithoutDisks files play = IfBytes files play.script AreWithoutDisks

-- want of memory, or a fault of theirs
abbrev pub RefusesScript : List ℕ → Status → Type 0
RefusesScript bytes status =
    RefusesBytes bytes status ⊎ ((script : Script) × Spells bytes script × (HasNoDisk script → ⊥) × (status ≡ BadScript (undecided bytes)))

-- no memory, a read that failed, or a fault of the bytes
abbrev pub CheckScriptStatus : Option Files → List ℕ → Status → Type 0
CheckScriptStatus files name status =
    ((status ≡ NoMemory) ⊎ (status ≡ ReadFault)) ⊎ ((fault : ScriptFault) × (status ≡ BadScript fault) × IfBytes files name (λ bytes. IsRefusedScript bytes fault))

-- where they are told
abbrev pub GivesCheck : Option Files → List Sound → Play → Script → Option (List ℤ) → Type 0
GivesCheck files scores play script left =
    IfBytes files play.script (λ script_bytes. IfBytes files play.capture (λ capture_bytes.
    (given : Given) × IsInput script_bytes capture_bytes [] scores play given × (given.script ≡ script) × (left ≡ Some given.capture)))

abbrev pub CheckOpening : Option Files → List Sound → Play → Status → Type 0
CheckOpening files scores play Ok = ⊥
CheckOpening files scores play NoMemory = ⊤
CheckOpening files scores play Words = ⊥
CheckOpening files scores play ReadFault = ⊤
CheckOpening files scores play (BadWave fault) = IsWithoutDisks files play × PlayStatus files scores play (BadWave fault)
CheckOpening files scores play (BadScript fault) = IfBytes files play.script (λ bytes. IsRefusedScript bytes fault)
CheckOpening files scores play WriteFault = ⊥
CheckOpening files scores play (Differs difference) = IsWithoutDisks files play × PlayStatus files scores play (Differs difference)
CheckOpening files scores play (Wrong row sight) = ⊥

-- the script is not there, or it has no disk, and a file that a play would read is not there
abbrev pub LacksPlay : Option Files → List Sound → Play → Type 0
LacksPlay files scores play = (¬ IsThere files play.script) ⊎ (IsWithoutDisks files play × LacksInput files scores play)
