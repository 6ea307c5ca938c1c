-- What holds of serial mode's calls and of a desk in it, as the laws state it.
use Rattle.std.specs.Prelude.{◌≡◌, ℕ, suc, ◌+◌, ◌<◌, ◌≤◌, [], ◌++◌, length, take, slice_get, slice_index, Some}
use Rattle.graph_word.specs.Publications.{Publishing}
use Rattle.session_model.specs.Grammar.{IsScript}
use Rattle.session_model.specs.Histories.{accepted}
use Rattle.session_model.specs.Scripts.{Script, Phase, phases, turns}
use Rattle.session_model.specs.Serial.{lanes_at, history_with, serial_calls, serial_history, serial_numbers}
use Rattle.control_desk.specs.Desks.{Desk, IsDesk, IsDone, IsNewDesk, cycles_before}
use Rattle.serial_lanes.specs.Lanes.{BehindPhases, LanesRun, SawUpTo, SerialDesk, IsRound, calls_behind, calls_until, cycles_begun}

-- one more round of the lanes
abbrev pub CallsNextRound : Type 0
CallsNextRound = (script : Script) (done rounds : ℕ) → calls_until script done (suc rounds) ≡ calls_until script done rounds ++ lanes_at script done (cycles_begun script done rounds)

-- a phase has one round more than cycles
abbrev pub CallsNextPhase : Type 0
CallsNextPhase = (script : Script) (done : ℕ) (phase : Phase) → slice_get (phases script) done ≡ Some phase → calls_until script done (phase.cycles + 1) ≡ calls_behind script (suc done)

-- the calls of all phases
abbrev pub CallsWhole : Type 0
CallsWhole = (script : Script) → calls_behind script (length (phases script)) ≡ serial_calls script

-- a desk before its first phase
abbrev pub BehindNone : Type 0
BehindNone = (script : Script) (publisher : Publishing) (desk : Desk) → IsNewDesk script publisher desk → BehindPhases desk 0

-- behind a phase's last round no lane has a call left
abbrev pub BehindLastRound : Type 0
BehindLastRound = (desk : Desk) (done : ℕ) (phase : Phase) → IsScript desk.script → slice_get (phases desk.script) done ≡ Some phase → SerialDesk desk done (phase.cycles + 1) → BehindPhases desk (suc done)

-- behind all phases the history is that of serial mode
abbrev pub BehindAll : Type 0
BehindAll = (desk : Desk) → BehindPhases desk (length (phases desk.script)) → desk.history ≡ serial_history desk.script

-- lanes that saw no cycle but the one begun last make just the calls that are due
abbrev pub RoundOfLanes : Type 0
RoundOfLanes = (desk after : Desk) (done rounds : ℕ) → IsScript desk.script → IsRound desk.script done rounds → SerialDesk desk done rounds
    → cycles_begun desk.script done rounds ≤ desk.publishing.least → LanesRun desk after → SawUpTo (cycles_begun desk.script done rounds) after → SerialDesk after done (suc rounds)

-- what was accepted before a cycle is its number
abbrev pub SerialNumber : Type 0
SerialNumber = (script : Script) (done t : ℕ) (phase : Phase) → IsScript script → slice_get (phases script) done ≡ Some phase → t < phase.cycles
    → slice_index (serial_numbers script) (cycles_before script done + t) ≡ length (accepted (history_with script [] (calls_until script done (suc t))))

-- so the number of a cycle is what the desk has published before it
abbrev pub PublishedNumber : Type 0
PublishedNumber = (desk : Desk) (done t : ℕ) (phase : Phase) → IsScript desk.script → IsDesk desk → slice_get (phases desk.script) done ≡ Some phase → t < phase.cycles → SerialDesk desk done (suc t)
    → slice_index (serial_numbers desk.script) (cycles_before desk.script done + t) ≡ length desk.publishing.all

-- the history of serial mode begins with what a desk has made at any place of a phase
abbrev pub HistoryFront : Type 0
HistoryFront = (desk : Desk) (done rounds : ℕ) (phase : Phase) → slice_get (phases desk.script) done ≡ Some phase → rounds ≤ phase.cycles + 1 → SerialDesk desk done rounds
    → desk.history ≡ take (length desk.history) (serial_history desk.script)

-- a meeting, which changes the publication alone, leaves a desk where it is
abbrev pub SerialWhereMet : Type 0
SerialWhereMet = (desk after : Desk) (done rounds : ℕ) → after ≡ record desk { publishing = after.publishing } → SerialDesk desk done rounds → SerialDesk after done rounds

abbrev pub BehindWhereMet : Type 0
BehindWhereMet = (desk after : Desk) (done : ℕ) → after ≡ record desk { publishing = after.publishing } → BehindPhases desk done → BehindPhases after done

abbrev pub DoneWhereMet : Type 0
DoneWhereMet = (desk after : Desk) (lane : ℕ) → after ≡ record desk { publishing = after.publishing } → IsDone desk lane → IsDone after lane

-- the cycles of all phases
abbrev pub CyclesTotal : Type 0
CyclesTotal = (script : Script) → cycles_before script (length (phases script)) ≡ length (turns script)
