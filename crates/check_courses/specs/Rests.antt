-- Courses that differ in underruns alone, where no player meets these.
--     with_underruns course underruns      the course with other underruns
--     DifferAtRest course other last      up to a cycle they differ in cycles without a player and past a file's end alone
--     GivesSame course other k      cycle k gives and leaves the same
use Rattle.std.specs.Prelude.{◌≡◌, ◌⊎◌, ℕ, ◌≤◌, false, List}
use Rattle.jack_types.specs.declared.replies.Underrun.{Underrun}
use Rattle.session_model.specs.Courses.{Course, is_disk_active, is_underrun, played_before}
use Rattle.session_model.specs.Cycles.{cycle, input_of, midi_input_of, memory as memory_of}
use Rattle.session_model.specs.Disks.{file_blocks}
use Rattle.session_model.specs.Playback.{played_in}
use Rattle.session_model.specs.Recorders.{block}
use Rattle.session_model.specs.Transport.{moment as moment_of}

abbrev pub with_underruns : Course → List (List Underrun) → Course
with_underruns course underruns = record course { underruns = underruns }

-- no player of the disk is active in the cycle, or all blocks of its file were played before
abbrev pub IsAtRest : Course → ℕ → ℕ → Type 0
IsAtRest course disk k = (is_disk_active course disk k ≡ false) ⊎ (file_blocks course disk ≤ played_before course disk k)

abbrev pub DifferAtRest : Course → Course → ℕ → Type 0
DifferAtRest course other last = (disk k : ℕ) → 1 ≤ k → k ≤ last → (is_underrun course disk k ≡ is_underrun other disk k) ⊎ IsAtRest course disk k

-- what ports give and get in the cycle, the memories behind it, the recorders' blocks, what is played back, and the moment
pub record GivesSame (course other : Course) (k : ℕ) : Type 0 where
  pub now : (cycle course k).now ≡ (cycle other k).now
  pub memory : (birth : ℕ) → memory_of course k birth ≡ memory_of other k birth
  pub inputs : (port : List ℕ) → input_of course k port ≡ input_of other k port
  pub midi_inputs : (port : List ℕ) → midi_input_of course k port ≡ midi_input_of other k port
  pub blocks : (recorder : ℕ) → block course recorder k ≡ block other recorder k
  pub playback : played_in course k ≡ played_in other k
  pub moment : moment_of course k ≡ moment_of other k
