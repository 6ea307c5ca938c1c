-- What holds of desks and of legal histories, as the laws state it.
use Rattle.std.specs.Prelude.{◌≡◌, ℕ, suc, ◌+◌, ◌*◌, ◌%◌, if◌then◌else◌, ◌≤◌, ◌<◌, ◌==◌, List, [], ◌∷◌, ◌++◌, length, map, slice_get, slice_index_or, All, Contains, Some}
use Rattle.jack_types.specs.declared.commands.Call.{Call}
use Rattle.jack_types.specs.declared.commands.Change.{Change}
use Rattle.jack_types.specs.declared.replies.Entry.{Entry}
use Rattle.session_model.specs.Grammar.{IsScript}
use Rattle.session_model.specs.Histories.{Legal, LegalSoFar, accepted, accepted_below, calls_of, stage_of}
use Rattle.session_model.specs.Replies.{AreLawful}
use Rattle.session_model.specs.Scripts.{Script, Planned, phases, planned}
use Rattle.session_model.specs.State.{opening}
use Rattle.control_desk.specs.Desks.{Desk, IsDesk, IsDone, IsOfPhases, GoesOn, MayBegin, Steps, cycles_before, next_call}
use Rattle.control_desk.specs.declared.steps.Stepped.{Stepped}

-- what a legal history accepts is lawful
abbrev pub LawfulAccepted : Type 0
LawfulAccepted = (script : Script) (history : List Entry) → LegalSoFar script history → AreLawful (opening script.header.capture script.header.playback) (accepted history)

-- no item stands twice in a list
abbrev pub AreApart : {X : Type 0} → List X → Type 0
AreApart [] = Unit {0}
AreApart (x ∷ xs) = (Contains xs x → ⊥) × AreApart xs

-- the changes are commands of calls of the script, each call taken at most once
pub record AreOfCalls (script : Script) (changes : List Change) : Type 0 where
  pub calls : List Call
  pub commands : map (λ (call : Call). call.command) calls ≡ map (λ (change : Change). change.command) changes
  pub planned_ones : All (Contains (map (λ (plan : Planned). plan.call) (planned script))) calls
  pub once : AreApart calls

-- what was accepted are commands of calls of the script, each call once
abbrev pub OfCallsAccepted : Type 0
OfCallsAccepted = (script : Script) (history : List Entry) → LegalSoFar script history → AreOfCalls script (accepted history)

-- where no lane has a call left, all calls of the phases begun are made
abbrev pub MadeWhereDone : Type 0
MadeWhereDone = (desk : Desk) → IsScript desk.script → IsDesk desk → ((lane : ℕ) → lane ≤ 4 → IsDone desk lane)
    → (plan : Planned) → Contains (planned desk.script) plan → plan.stage < 2 * desk.phase → Contains (calls_of desk.history) plan.call

-- and in the last phase the history is legal
abbrev pub LegalWhereDone : Type 0
LegalWhereDone = (desk : Desk) → IsScript desk.script → IsDesk desk → desk.phase ≡ length (phases desk.script) → ((lane : ℕ) → lane ≤ 4 → IsDone desk lane) → Legal desk.script desk.history

-- where lane 0 had no call left, it has none in a desk that goes on
abbrev pub DoneGoesOn : Type 0
DoneGoesOn = (opened desk : Desk) → IsScript desk.script → IsDesk desk → GoesOn opened desk → IsDone opened 0 → IsDone desk 0

-- all that was accepted is of the phases begun
abbrev pub AcceptedUpTo : Type 0
AcceptedUpTo = (script : Script) (history : List Entry) (phase : ℕ) → 1 ≤ phase → All (IsOfPhases script phase) history → accepted_below script history (2 * phase) ≡ length (accepted history)

-- what was accepted below a stage stays where only calls of that stage or higher ones are made
abbrev pub AcceptedLater : Type 0
AcceptedLater = (script : Script) (front more : List Entry) (stage : ℕ) → All (λ (entry : Entry). stage ≤ stage_of script entry.call) more
    → accepted_below script (front ++ more) stage ≡ accepted_below script front stage

-- and is all that was accepted where no other call was made before
abbrev pub AcceptedAll : Type 0
AcceptedAll = (script : Script) (front : List Entry) (stage : ℕ) → All (λ (entry : Entry). stage_of script entry.call < stage) front → accepted_below script front stage ≡ length (accepted front)

-- a lane's next call is of the present phase
abbrev pub NextStage : Type 0
NextStage = (desk : Desk) (lane : ℕ) (plan : Planned) → IsScript desk.script → IsDesk desk → next_call desk lane ≡ Some plan → 2 * desk.phase ≤ plan.stage + 2

-- what calls of the first phases wait for are cycles of these phases
abbrev pub AskedWithin : Type 0
AskedWithin = (script : Script) (plan : Planned) (done : ℕ) → IsScript script → Contains (planned script) plan → plan.stage < 2 * done → plan.asked ≤ cycles_before script done

-- `do` calls have even stages, and those of other lanes odd ones
abbrev pub StageOfLane : Type 0
StageOfLane = (script : Script) (plan : Planned) → IsScript script → Contains (planned script) plan → plan.stage % 2 ≡ (if plan.call.lane == 0 then 0 else 1)

-- before any phase the first one may begin
abbrev pub FirstBegins : Type 0
FirstBegins = (desk : Desk) → desk.phase ≡ 0 → MayBegin desk 0

-- whatever a step answers, the desk goes on
abbrev pub StepGoesOn : Type 0
StepGoesOn = (desk after : Desk) (lane : ℕ) (answer : Stepped) → Steps desk lane answer after → GoesOn desk after
