-- The laws of a run in serial mode, as they are cited. No public clause cites this module.
--     BehindAtFirst, KeptAtFirst      before the first phase
--     SoundBegun, TellsBegun, AtFront, KeptAtFront      the front of a phase
--     AtNext, KeptNext, SettledTurned      one of its cycles
--     FrontsWhereFailed      or one that failed
--     BehindLastCycle      its end
--     RanBehind, RunsWhole      all phases
use Rattle.std.specs.Prelude.{◌≡◌, ℕ, suc, ◌+◌, ◌<◌, Bool, [], length, slice_get, Some, IsNone}
use Rattle.session_model.specs.Explanations.{Given}
use Rattle.session_model.specs.Scripts.{Phase, phases, turns}
use Rattle.session_works.specs.DeskWords.{cycles_before}
use Rattle.driver_laws.specs.Drivers.{run, turn_of}
use Rattle.driver_laws.specs.Keeping.{HasTape}
use Rattle.session_works.specs.disk_runs.specs.Rests.{DisksTell}
use Rattle.session_works.specs.serial_lanes.specs.Lanes.{SerialDesk}
use Rattle.session_works.specs.RunWords.{HasFiles, IsGiven, IsNew, RanPhases, Runs, SerialAt, SerialBehind, SerialKept, Session}
use Rattle.session_works.specs.SerialWords.{AreExact, AreFresh, bare, Begun, IsSettled, IsSound, StandsInSerial, told, Turned, TurnFails}

abbrev pub BehindAtFirst : Type 0
BehindAtFirst = (session : Session) → IsNew (bare session) → IsNone session.script.header.threads → HasFiles session → SerialBehind session 0

abbrev pub KeptAtFirst : Type 0
KeptAtFirst =
    (session : Session) (given : Given) → IsNew (bare session) → IsNone session.script.header.threads → HasFiles session
    → HasTape session.driver.playback [] → AreFresh session → IsGiven session given → SerialKept given session

abbrev pub SoundBegun : Type 0
SoundBegun = (done : ℕ) (session after : Session) → IsSound session → Begun done session after → IsSound after

abbrev pub TellsBegun : Type 0
TellsBegun = (done : ℕ) (session after : Session) → Begun done session after → DisksTell session → DisksTell after

abbrev pub AtFront : Type 0
AtFront = (session after : Session) (done : ℕ) (phase : Phase) → slice_get (phases session.script) done ≡ Some phase → IsSound session → SerialBehind session done → Begun done session after → SerialAt after done 0 1

abbrev pub KeptAtFront : Type 0
KeptAtFront =
    (given : Given) (session after : Session) (done : ℕ) (phase : Phase) → slice_get (phases session.script) done ≡ Some phase → IsSound session → SerialBehind session done → Begun done session after
    → SerialKept given session → SerialKept given after

abbrev pub AtNext : Type 0
AtNext =
    (session after : Session) (done t : ℕ) (phase : Phase) → slice_get (phases session.script) done ≡ Some phase → t < phase.cycles → IsSettled session → SerialAt session done t (suc t)
    → Turned phase.is_freewheel session after → SerialAt after done (suc t) (suc (suc t))

abbrev pub KeptNext : Type 0
KeptNext =
    (given : Given) (session after : Session) (done t : ℕ) (phase : Phase) → slice_get (phases session.script) done ≡ Some phase → t < phase.cycles → IsSettled session → SerialAt session done t (suc t)
    → Turned phase.is_freewheel session after → SerialKept given session → SerialKept given after

abbrev pub SettledTurned : Type 0
SettledTurned =
    (freewheel : Bool) (session after : Session) → IsSettled session → run session.driver < length (turns session.script)
    → (turn_of session.script (run session.driver + 1)).is_freewheel ≡ freewheel → Turned freewheel session after → IsSettled after

abbrev pub FrontsWhereFailed : Type 0
FrontsWhereFailed =
    (given : Given) (freewheel : Bool) (session after : Session) (done t : ℕ) (phase : Phase) → slice_get (phases session.script) done ≡ Some phase → t < phase.cycles
    → run session.driver ≡ cycles_before session.script done + t → IsSettled session → SerialDesk session.desk done (suc t) → AreExact session → SerialKept given session
    → (turn_of session.script (run session.driver + 1)).is_freewheel ≡ freewheel
    → TurnFails freewheel session after → StandsInSerial given (told after)

abbrev pub BehindLastCycle : Type 0
BehindLastCycle = (session : Session) (done : ℕ) (phase : Phase) → slice_get (phases session.script) done ≡ Some phase → SerialAt session done phase.cycles (phase.cycles + 1) → SerialBehind session (suc done)

abbrev pub RanBehind : Type 0
RanBehind = (session : Session) → SerialBehind session (length (phases session.script)) → RanPhases session (length (phases session.script))

abbrev pub RunsWhole : Type 0
RunsWhole =
    (before after : Session) → IsNone before.script.header.threads → after.script ≡ before.script → IsSettled after → SerialBehind after (length (phases after.script))
    → ((given : Given) → IsGiven before given → SerialKept given after) → Runs before after
