-- A file that is written, as its disk tells its bytes.
use Rattle.std.specs.Prelude.{◌⊎◌, ℕ, List}
use Rattle.std.specs.declared.option.Option.{Option}
use Rattle.file_stores.specs.Gathering.{waits}
use Rattle.file_stores.specs.Standing.{IsAsBefore, LeavesFront, LeavesPart, standing, with_waiting}
use Rattle.file_stores.specs.declared.disk.Disk.{Ghosts}
use Rattle.file_stores.specs.declared.draft.Draft.{Draft}

-- the bytes of its disk
abbrev pub on_disk : {D : Type 0} {disk : Ghosts D} → Draft D disk → Option (List ℕ)
on_disk {D} {disk} draft = disk.bytes draft.target.disk

-- what counts as written of them
abbrev pub stands : {D : Type 0} {disk : Ghosts D} → Draft D disk → Option (List ℕ)
stands draft = standing draft.target.emptied (on_disk draft)

-- what the file is to hold
abbrev pub content_of : {D : Type 0} {disk : Ghosts D} → Draft D disk → Option (List ℕ)
content_of draft = with_waiting (stands draft) draft.place (waits draft.gathered)

-- how many calls of its disk have failed
abbrev pub faults_of : {D : Type 0} {disk : Ghosts D} → Draft D disk → ℕ
faults_of {D} {disk} draft = disk.faults draft.target.disk

-- these are the first bytes of what was to stand, and behind them what stood; or what stood before the file was made
abbrev pub IsLeft : {D : Type 0} {disk : Ghosts D} → Draft D disk → Option (List ℕ) → Type 0
IsLeft draft left = LeavesPart (stands draft) (content_of draft) left ⊎ IsAsBefore draft.target.emptied (on_disk draft) left

-- these are the first bytes of the file, or what stood before it was made
abbrev pub IsFrontLeft : {D : Type 0} {disk : Ghosts D} → Draft D disk → Option (List ℕ) → Type 0
IsFrontLeft draft left = LeavesFront (content_of draft) left ⊎ IsAsBefore draft.target.emptied (on_disk draft) left
