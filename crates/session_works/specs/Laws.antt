-- Laws of the session's steps, as they are cited.
--     SoundBehindBlocks, EmptyBehindBlocks      blocks left the rings
--     SoundBehindCycle, MayRunNext      a cycle was run, and may be
--     SoundBehindReading, EmptyBehindReading, FilledBehindReading      the readers of the disks read on
--     SoundBehindMeeting, TellsBehindMeeting, TellsBehindBlocks      the ends of the disks' rings met, and blocks left those of the recorders
--     CycleLaws      all that a cycle goes by
--     SegmentsOfPhases      the segments of a script are its phases
--     CycleThere, CycleIs      the cycles of a phase
--     SettledAtFirst      a session whose files are begun
use Rattle.std.specs.Prelude.{◌≡◌, ℕ, ◌+◌, ◌<◌, Bool, true, length, slice_get, Some}
use Rattle.session_model.specs.Scripts.{Phase, Script, phases, turns}
use Rattle.control_desk.specs.Desks.{cycles_before}
use Rattle.driver_laws.specs.Cycling.{MayCycle}
use Rattle.driver_laws.specs.Drivers.{run, turn_of}
use Rattle.script_segments.specs.Segments.{segment_of, segments}
use Rattle.script_segments.specs.declared.lines.Segment.{Segment}
use Rattle.run_laws.specs.Runs.{HasFiles}
use Rattle.run_laws.specs.Sessions.{Session}
use Rattle.disk_runs.specs.Readings.{DisksRead, DisksTold}
use Rattle.disk_runs.specs.Rests.{AreFilled, DisksTell}
use Rattle.run_laws.specs.Told.{IsNew}
use Rattle.serial_laws.specs.Openings.{AreFresh, bare}
use Rattle.serial_laws.specs.Steps.{AreEmpty, Cycled, GiveUp, IsSettled, IsSound}

abbrev pub SoundBehindBlocks : Type 0
SoundBehindBlocks = (most : ℕ) (session after : Session) → IsSound session → GiveUp most session after → IsSound after

abbrev pub EmptyBehindBlocks : Type 0
EmptyBehindBlocks = (session after : Session) → IsSound session → GiveUp session.script.header.ring session after → AreEmpty after

abbrev pub SoundBehindCycle : Type 0
SoundBehindCycle =
    (session after : Session) → IsSound session → run session.driver < length (turns session.script)
    → ((turn_of session.script (run session.driver + 1)).is_freewheel ≡ true → AreEmpty session × AreFilled session) → Cycled session after → IsSound after

abbrev pub MayRunNext : Type 0
MayRunNext =
    (session : Session) (freewheel : Bool) → IsSound session → run session.driver < length (turns session.script)
    → (turn_of session.script (run session.driver + 1)).is_freewheel ≡ freewheel → (turn_of session.script (run session.driver + 1)).period ≡ session.driver.set → MayCycle session.driver freewheel

abbrev pub SoundBehindReading : Type 0
SoundBehindReading = (most : ℕ) (session after : Session) → IsSound session → DisksRead most session after → IsSound after

abbrev pub EmptyBehindReading : Type 0
EmptyBehindReading = (most : ℕ) (session after : Session) → DisksRead most session after → AreEmpty session → AreEmpty after

abbrev pub FilledBehindReading : Type 0
FilledBehindReading = (session after : Session) → IsSettled session → DisksRead session.script.header.ring session after → AreFilled after

abbrev pub SoundBehindMeeting : Type 0
SoundBehindMeeting = (session after : Session) → IsSound session → DisksTold session after → IsSound after

abbrev pub TellsBehindMeeting : Type 0
TellsBehindMeeting = (session after : Session) → DisksTold session after → DisksTell after

abbrev pub TellsBehindBlocks : Type 0
TellsBehindBlocks = (most : ℕ) (session after : Session) → GiveUp most session after → DisksTell session → DisksTell after

pub record CycleLaws : Type 0 where
  pub blocks : SoundBehindBlocks
  pub empty : EmptyBehindBlocks
  pub tells : TellsBehindBlocks
  pub read : SoundBehindReading
  pub still_empty : EmptyBehindReading
  pub filled : FilledBehindReading
  pub cycle : SoundBehindCycle
  pub told : SoundBehindMeeting
  pub met : TellsBehindMeeting
  pub next : MayRunNext

abbrev pub SegmentsOfPhases : Type 0
SegmentsOfPhases = (script : Script) (done : ℕ) (segment : Segment) → slice_get (segments script) done ≡ Some segment → (phase : Phase) × (slice_get (phases script) done ≡ Some phase) × (segment ≡ segment_of phase)

abbrev pub CycleThere : Type 0
CycleThere = (script : Script) (done t : ℕ) (phase : Phase) → slice_get (phases script) done ≡ Some phase → t < phase.cycles → cycles_before script done + t < length (turns script)

abbrev pub CycleIs : Type 0
CycleIs =
    (script : Script) (done t : ℕ) (phase : Phase) → slice_get (phases script) done ≡ Some phase → t < phase.cycles
    → turn_of script (cycles_before script done + t + 1) ≡ record { period = phase.period; is_freewheel = phase.is_freewheel; phase = done }

abbrev pub SettledAtFirst : Type 0
SettledAtFirst = (session : Session) → IsNew (bare session) → AreFresh session → HasFiles session → IsSettled session
