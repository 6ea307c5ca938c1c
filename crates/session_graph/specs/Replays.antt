-- Inside: a replay line by line. No public clause cites this module.
--     IsReplay script lines state calls next      the state behind right calls, the calls of the lanes, and the number that the next change gets
--     IsOfReplay script lines number cycle fault      what a fault says that ended a replay
use Rattle.std.specs.Prelude.{◌≡◌, ℕ, ◌+◌, List, length, map, ⊤}
use Rattle.session_model.specs.Grammar.{IsScript}
use Rattle.session_model.specs.Histories.{accepted, state_after}
use Rattle.session_model.specs.Samples.{below}
use Rattle.session_model.specs.Scripts.{Planned, Script, planned_of}
use Rattle.session_model.specs.State.{State}
use Rattle.graph_replies.specs.Told.{HasShortDelays}
use Rattle.report_reader.specs.declared.rows.CallLine.{CallLine}
use Rattle.session_graph.specs.Told.{AreRight, IsOfRow, history_told}
use Rattle.session_graph.specs.declared.faults.GraphFault.{GraphFault}
use Rattle.session_graph.specs.declared.faults.GraphFault.TheVariants.{NoMemory, Words, ReadFault, BadScript, WriteFault, Wrong}

pub record IsReplay (script : Script) (lines : List CallLine) (state : State) (calls : List (List Planned)) (next : ℕ) : Type 0 where
  pub lawful : IsScript script
  pub right : AreRight script lines
  pub state_is : state ≡ state_after script (history_told script lines)
  pub short : HasShortDelays state
  pub calls_are : calls ≡ map (planned_of script) (below 5)
  pub next_is : next ≡ length (accepted (history_told script lines)) + 1

abbrev pub IsOfReplay : Script → List CallLine → ℕ → ℕ → GraphFault → Type 0
IsOfReplay script lines number cycle NoMemory = ⊤
IsOfReplay script lines number cycle Words = ⊥
IsOfReplay script lines number cycle ReadFault = ⊥
IsOfReplay script lines number cycle (BadScript fault) = ⊥
IsOfReplay script lines number cycle WriteFault = ⊥
IsOfReplay script lines number cycle (Wrong row) = (row.place ≡ 0) × IsOfRow script lines number cycle row row.what
