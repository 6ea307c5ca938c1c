-- Inside: what is kept beside a history, and which call may come next. No public clause cites this module.
--     made history lane      how many calls a lane made
--     IsNext script history plan      the plan is the next of its lane, and all calls of lower stages were made
--     Finds script history lane index found      the plan of this lane and index, if it is such a next one
--     Enters checks plan reply right after      the call is answered by the graph
--     IsKept checks ..      what is kept
use Rattle.std.specs.Prelude.{◌≡◌, ℕ, ◌<◌, ◌≤◌, ◌==◌, Bool, true, false, List, [], ◌∷◌, ◌++◌, length, map, take, count_by, nat_lt, slice_get, Contains, Option, Some, None}
use Rattle.jack_types.specs.declared.commands.Call.{Call}
use Rattle.jack_types.specs.declared.commands.Change.{Change}
use Rattle.jack_types.specs.declared.replies.Entry.{Entry}
use Rattle.jack_types.specs.declared.replies.Reply.{Reply}
use Rattle.jack_types.specs.declared.replies.Reply.TheVariants.{Accepted}
use Rattle.graph_replies.specs.Told.{HasShortDelays}
use Rattle.lane_calls.specs.Plans.{plan_of as plan_with}
use Rattle.session_model.specs.Grammar.{IsScript}
use Rattle.session_model.specs.Histories.{LegalSoFar, accepted, calls_of, plan_of, state_after}
use Rattle.session_model.specs.Samples.{below}
use Rattle.session_model.specs.Scripts.{Script, Planned, planned, planned_of}
use Rattle.session_model.specs.Serial.{answered}
use Rattle.session_model.specs.State.{State}
use Rattle.call_checks.specs.Checks.{Checks}
use Rattle.call_checks.specs.declared.checks.RightCall.{RightCall}

abbrev pub made : List Entry → ℕ → ℕ
made history lane = count_by (λ (call : Call). call.lane == lane) (calls_of history)

-- every call of a lower stage was made
abbrev pub AreMadeBelow : Script → List Entry → ℕ → Type 0
AreMadeBelow script history stage = (earlier : Planned) → Contains (planned script) earlier → earlier.stage < stage → Contains (calls_of history) earlier.call

-- the lane's next call is of a lower stage
pub record HasEarlier (script : Script) (history : List Entry) (stage lane : ℕ) : Type 0 where
  pub plan : Planned
  pub next : slice_get (planned_of script lane) (made history lane) ≡ Some plan
  pub low : plan.stage < stage

-- no lane's next call is of a lower stage
abbrev pub IsDue : Script → List Entry → ℕ → Type 0
IsDue script history stage = (lane : ℕ) → lane ≤ 4 → HasEarlier script history stage lane → ⊥

-- the next of its lane, behind all calls of lower stages
pub record IsNext (script : Script) (history : List Entry) (plan : Planned) : Type 0 where
  pub lane : plan.call.lane ≤ 4
  pub next : slice_get (planned_of script plan.call.lane) (made history plan.call.lane) ≡ Some plan
  pub stages : AreMadeBelow script history plan.stage

-- the same, of this lane and index
pub record IsNextAs (script : Script) (history : List Entry) (lane index : ℕ) (plan : Planned) : Type 0 where
  pub next : IsNext script history plan
  pub lane_is : plan.call.lane ≡ lane
  pub index_is : plan.call.index ≡ index

abbrev pub Finds : Script → List Entry → ℕ → ℕ → Option Planned → Type 0
Finds script history lane index (Some plan) = IsNextAs script history lane index plan
Finds script history lane index None = (plan : Planned) → IsNextAs script history lane index plan → ⊥

-- entered where the reply is the graph's, and wrong where it is another
abbrev pub Enters : Checks → Planned → Reply → Bool → Checks → Type 0
Enters checks plan reply true after =
    (reply ≡ (answered checks.script checks.history plan.call).reply) × (after ≡ record checks { history = checks.history ++ answered checks.script checks.history plan.call ∷ [] })
Enters checks plan reply false after = (reply ≡ (answered checks.script checks.history plan.call).reply → ⊥) × (after ≡ record checks { wrong = true })

abbrev pub entry_of : RightCall → Entry
entry_of one = record { call = one.planned.call; reply = one.reply }

-- whether it is an accepted call of a lower stage
abbrev pub is_below : ℕ → RightCall → Bool
is_below stage one = accepts one.reply
  where
    accepts : Reply → Bool
    accepts (Accepted number) = nat_lt one.planned.stage stage
    accepts _ = false

-- what is noted of the call at a place: its plan, and how many were accepted before it
pub record IsNoted (script : Script) (history : List Entry) (place : ℕ) (one : RightCall) : Type 0 where
  pub plan : plan_of script one.planned.call ≡ Some (plan_with one.planned)
  pub before : one.before ≡ length (accepted (take place history))

-- a legal history of a lawful script, with the calls of each lane, how many of these were made, what is noted of each call, what was accepted, and, while no call was wrong, the graph behind it
pub record IsKept (checks : Checks) (calls : List (List Planned)) (counts : List ℕ) (right : List RightCall) (changes : List Change) (state : State) : Type 0 where
  pub script_is : IsScript checks.script
  pub legal : LegalSoFar checks.script checks.history
  pub calls_are : calls ≡ map (planned_of checks.script) (below 5)
  pub counts_are : counts ≡ map (made checks.history) (below 5)
  pub noted : (place : ℕ) (one : RightCall) → slice_get right place ≡ Some one → IsNoted checks.script checks.history place one
  pub changes_are : changes ≡ accepted checks.history
  pub state_is : checks.wrong ≡ false → state ≡ state_after checks.script checks.history
  pub short : HasShortDelays (state_after checks.script checks.history)
