-- The calls of serial mode up to a place, and what a desk's lanes do there.
--     calls_behind, calls_until      the calls up to a place
--     BehindPhases desk done      between two segments
--     SerialDesk desk done rounds      within one
--     LaneRuns, LanesRun      one lane's steps, and those of a round
--     RanOn before after      what holds of a desk behind a round, whatever it saw
use Rattle.std.specs.Prelude.{◌≡◌, ◌⊎◌, ℕ, zero, suc, ◌+◌, ◌≤◌, List, [], ◌++◌, take, flat_map, slice_get, All, Some}
use Rattle.jack_types.specs.declared.replies.Reply.{Reply}
use Rattle.session_model.specs.Histories.{accepted}
use Rattle.session_model.specs.Publication.{SeenPair}
use Rattle.session_model.specs.Samples.{below}
use Rattle.session_model.specs.Scripts.{Script, Phase, Planned, phases}
use Rattle.session_model.specs.Serial.{calls_from, do_calls, lanes_at, history_with}
use Rattle.control_desk.specs.Desks.{Desk, IsDone, GoesOn, Makes, Waits, cycles_before}

-- the calls of so many phases, all of them
abbrev pub calls_behind : Script → ℕ → List Planned
calls_behind script done = calls_from script 0 0 (take done (phases script))

-- these, the next phase's `do` calls, and so many rounds of its lanes: one before its first cycle, and one behind each
abbrev pub calls_until : Script → ℕ → ℕ → List Planned
calls_until script done rounds = calls_behind script done ++ do_calls script done ++ flat_map (λ t. lanes_at script done (cycles_before script done + t)) (below rounds)

-- so many phases were begun, all their calls were made in the order of serial mode, and no lane has one left
pub record BehindPhases (desk : Desk) (done : ℕ) : Type 0 where
  pub history : desk.history ≡ history_with desk.script [] (calls_behind desk.script done)
  pub phase : desk.phase ≡ done
  pub used : (lane : ℕ) → lane ≤ 4 → IsDone desk lane

-- the phase behind so many others was begun, and its lanes went so many rounds, in the order of serial mode
pub record SerialDesk (desk : Desk) (done rounds : ℕ) : Type 0 where
  pub history : desk.history ≡ history_with desk.script [] (calls_until desk.script done rounds)
  pub phase : desk.phase ≡ suc done

-- a step that makes no call: the lane waits for a cycle that has not begun, or it has no call left in this phase
abbrev pub Stops : Desk → ℕ → Desk → Type 0
Stops desk lane after = ((asked : ℕ) × (seen : ℕ) × Waits desk lane asked seen after) ⊎ (IsDone desk lane × (after ≡ desk))

-- a lane makes so many calls, one after another, and then stops
abbrev pub LaneSteps : ℕ → Desk → ℕ → Desk → Type 0
LaneSteps zero desk lane after = Stops desk lane after
LaneSteps (suc calls) desk lane after = (reply : Reply) × (between : Desk) × Makes desk lane reply between × LaneSteps calls between lane after

-- a lane makes calls until it stops
pub record LaneRuns (desk : Desk) (lane : ℕ) (after : Desk) : Type 0 where
  pub calls : ℕ
  pub steps : LaneSteps calls desk lane after

-- lanes 1 to 4 run, in this order
pub record LanesRun (desk after : Desk) : Type 0 where
  pub one : Desk
  pub two : Desk
  pub three : Desk
  pub first : LaneRuns desk 1 one
  pub second : LaneRuns one 2 two
  pub third : LaneRuns two 3 three
  pub fourth : LaneRuns three 4 after

-- how many cycles of the session have begun when the lanes go this round
abbrev pub cycles_begun : Script → ℕ → ℕ → ℕ
cycles_begun script done rounds = cycles_before script done + rounds

-- a place in a script's phase where its lanes have a round to go
pub record IsRound (script : Script) (done rounds : ℕ) : Type 0 where
  pub phase : Phase
  pub there : slice_get (phases script) done ≡ Some phase
  pub within : rounds ≤ phase.cycles

-- the desk has seen no later cycle than this one
abbrev pub SawUpTo : ℕ → Desk → Type 0
SawUpTo cycle desk = All (λ (pair : SeenPair). pair.cycle ≤ cycle) desk.publishing.pairs

-- the same desk, later in its phase: what is published is what its history accepts, old looks stand, and no later look finds less
pub record RanOn (desk after : Desk) : Type 0 where
  pub goes_on : GoesOn desk after
  pub published : after.publishing.all ≡ accepted after.history
  pub pairs : (looks : List SeenPair) × (after.publishing.pairs ≡ desk.publishing.pairs ++ looks)
  pub least : desk.publishing.least ≤ after.publishing.least
