-- Inside: a history with its replies, before anything is published. No public clause cites this module.
--     Past      the script, and the calls made with their replies
--     IsPast      what is kept beside a history
--     IsNext script history plan      the plan is the next of its lane, and all calls of lower stages were made
use Rattle.std.specs.Prelude.{◌≡◌, ℕ, ◌≤◌, ◌<◌, List, map, slice_get, Contains, Some}
use Rattle.jack_types.specs.declared.commands.Change.{Change}
use Rattle.jack_types.specs.declared.replies.Entry.{Entry}
use Rattle.session_model.specs.Grammar.{IsScript}
use Rattle.session_model.specs.Histories.{LegalSoFar, accepted, calls_of, state_after}
use Rattle.session_model.specs.Samples.{below}
use Rattle.session_model.specs.Scripts.{Script, Planned, planned, planned_of}
use Rattle.session_model.specs.State.{State}
use Rattle.control_desk.specs.Desks.{made}

pub record Past : Type 0 where
  pub script : Script
  pub history : List Entry

-- a legal history of a lawful script, with the calls of each lane, how many of these were made, what was accepted, and the graph behind it
pub record IsPast (past : Past) (calls : List (List Planned)) (counts : List ℕ) (changes : List Change) (state : State) : Type 0 where
  pub script_is : IsScript past.script
  pub legal : LegalSoFar past.script past.history
  pub calls_are : calls ≡ map (planned_of past.script) (below 5)
  pub counts_are : counts ≡ map (made past.history) (below 5)
  pub changes_are : changes ≡ accepted past.history
  pub state_is : state ≡ state_after past.script past.history

-- the next of its lane, behind all calls of lower stages
pub record IsNext (script : Script) (history : List Entry) (plan : Planned) : Type 0 where
  pub lane : plan.call.lane ≤ 4
  pub next : slice_get (planned_of script plan.call.lane) (made history plan.call.lane) ≡ Some plan
  pub stages : (earlier : Planned) → Contains (planned script) earlier → earlier.stage < plan.stage → Contains (calls_of history) earlier.call
