-- Inside: the calls of a script, line by line. No public clause cites this module.
--     past progress line      what is said of the calls behind one line more
--     call_on progress line      the call on a line, if it has one
--     calls_on progress lines      the calls on these lines
--     of_lane lane calls      those of a lane, counted
--     kept lane plans plan      the plans with one more, where it is the lane's
use Rattle.std.specs.Prelude.{ℕ, ◌+◌, ◌<◌, ◌^◌, ◌==◌, ⊤, List, [], ◌∷◌, ◌++◌, filter, Option, Some, None, if◌then◌else◌}
use Rattle.jack_types.specs.declared.scripts.Body.{Body}
use Rattle.jack_types.specs.declared.scripts.Body.TheVariants.{Do, Run, Freewheel, Lane, Period}
use Rattle.session_model.specs.Scripts.{Planned, Uncounted, counted}
use Rattle.lane_calls.specs.declared.progress.Progress.{Progress}

-- a segment's `lane` calls come behind the `do` calls before it, and later `do` calls behind both
abbrev pub segment_behind : Progress → ℕ → Progress
segment_behind progress cycles = record { dos = progress.dos + 2; lanes = progress.dos + 1; before = progress.behind; behind = progress.behind + cycles }

abbrev pub past : Progress → Body → Progress
past progress (Run cycles) = segment_behind progress cycles
past progress (Freewheel cycles) = segment_behind progress cycles
past progress (Do _) = progress
past progress (Lane _ _ _) = progress
past progress (Period _) = progress

abbrev pub call_on : Progress → Body → Option Uncounted
call_on progress (Do command) = Some (record { lane = 0; command = command; stage = progress.dos; asked = 0 })
call_on progress (Lane lane begun command) = Some (record { lane = lane; command = command; stage = progress.lanes; asked = progress.before + begun })
call_on progress (Run _) = None
call_on progress (Freewheel _) = None
call_on progress (Period _) = None

abbrev pub with_call : Option Uncounted → List Uncounted → List Uncounted
with_call None calls = calls
with_call (Some call) calls = call ∷ calls

abbrev pub calls_on : Progress → List Body → List Uncounted
calls_on progress [] = []
calls_on progress (line ∷ lines) = with_call (call_on progress line) (calls_on (past progress line) lines)

-- before the first line
abbrev pub opening : Progress
opening = record { dos = 0; lanes = 0; before = 0; behind = 0 }

-- a call under this number of its lane
abbrev pub counted_as : ℕ → Uncounted → Planned
counted_as index call = record { call = record { lane = call.lane; index = index; command = call.command }; stage = call.stage; asked = call.asked }

abbrev pub of_lane : ℕ → List Uncounted → List Planned
of_lane lane calls = filter (λ plan. plan.call.lane == lane) (counted [] calls)

-- one more where it is the lane's
abbrev pub kept : ℕ → List Planned → Option Planned → List Planned
kept lane plans None = plans
kept lane plans (Some plan) = if plan.call.lane == lane then plans ++ plan ∷ [] else plans

-- the numbers behind the line are small
abbrev pub HasRoom : Progress → Body → Type 0
HasRoom progress (Run cycles) = (progress.dos + 2 < 2 ^ 32) × (progress.behind + cycles < 2 ^ 32)
HasRoom progress (Freewheel cycles) = (progress.dos + 2 < 2 ^ 32) × (progress.behind + cycles < 2 ^ 32)
HasRoom progress (Lane _ begun _) = progress.before + begun < 2 ^ 32
HasRoom progress (Do _) = ⊤
HasRoom progress (Period _) = ⊤
