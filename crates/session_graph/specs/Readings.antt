-- Inside: a report read line by line. No public clause cites this module.
--     HasCalls script start left place number calls      what was read of a source
--     IsNear limits place number count      how many lines lead to a place, and how many calls
--     IsOfStep, IsOfReport, IsOfFront      what a fault says that ended a reading
use Rattle.std.specs.Prelude.{◌≡◌, ◌≢◌, ℕ, ◌+◌, ◌≤◌, List, IfSome, length, ⊤, Option}
use Rattle.jack_types.specs.declared.replies.Part.TheVariants.{Report as InReport}
use Rattle.session_model.specs.Scripts.{Script}
use Rattle.report_reader.specs.declared.rows.CallLine.{CallLine}
use Rattle.report_reader.specs.declared.rows.Line.{Line}
use Rattle.report_laws.specs.Places.{limits_of}
use Rattle.report_laws.specs.declared.places.Limits.{Limits}
use Rattle.report_laws.specs.declared.places.Place.{Place}
use Rattle.report_laws.specs.declared.places.Place.TheVariants.{Start, Calls, Cycles, Meters, Events, Recorders, Disks, Done}
use Rattle.told_laws.specs.Tellings.{IsStuck}
use Rattle.told_reports.specs.Steps.{HasRead}
use Rattle.session_graph.specs.Askings.{Asking}
use Rattle.session_graph.specs.Files.{Files, IfBytes}
use Rattle.session_graph.specs.Fronts.{IsBroken, calls_in}
use Rattle.session_graph.specs.declared.faults.GraphFault.{GraphFault}
use Rattle.session_graph.specs.declared.faults.GraphFault.TheVariants.{NoMemory, Words, ReadFault, BadScript, WriteFault, Wrong}

-- lines that were read, `number` of them, with these calls
pub record HasCalls (script : Script) (start left : Option (List ℕ)) (place : Place) (number : ℕ) (calls : List CallLine) : Type 0 where
  pub lines : List Line
  pub read : HasRead script start left place lines
  pub number_is : number ≡ length lines
  pub calls_are : calls ≡ calls_in lines

abbrev pub IsNear : Limits → Place → ℕ → ℕ → Type 0
IsNear limits Start number count = (number ≡ 0) × (count ≡ 0)
IsNear limits (Calls calls) number count = (number ≡ calls + 1) × (count ≡ calls) × (calls ≤ limits.calls)
IsNear limits (Cycles cycles) number count = (number ≤ 1 + limits.calls + cycles) × (count ≤ limits.calls)
IsNear limits (Meters meters) number count = ⊥
IsNear limits (Events events) number count = ⊥
IsNear limits (Recorders recorders left) number count = ⊥
IsNear limits (Disks disks left) number count = ⊥
IsNear limits Done number count = ⊥

-- a line that is wrong is none that may come next, unless the report is whole
abbrev pub IsOfStep : Limits → Place → Option (List ℕ) → ℕ → GraphFault → Type 0
IsOfStep limits place left number NoMemory = ⊥
IsOfStep limits place left number Words = ⊥
IsOfStep limits place left number ReadFault = ⊤
IsOfStep limits place left number (BadScript fault) = ⊥
IsOfStep limits place left number WriteFault = ⊥
IsOfStep limits place left number (Wrong row) =
    (row ≡ record { what = InReport; number = number; place = 0 }) × (place ≢ Done → (script : Script) → limits ≡ limits_of script → IfSome left (IsStuck script place))

abbrev pub IsOfReport : Script → Option (List ℕ) → ℕ → GraphFault → Type 0
IsOfReport script left cycle NoMemory = ⊤
IsOfReport script left cycle Words = ⊥
IsOfReport script left cycle ReadFault = ⊤
IsOfReport script left cycle (BadScript fault) = ⊥
IsOfReport script left cycle WriteFault = ⊥
IsOfReport script left cycle (Wrong row) = (row.what ≡ InReport) × (row.place ≡ 0) × IfSome left (λ bytes. IsBroken script bytes cycle row.number)

abbrev pub IsOfFront : Option Files → Asking → Script → GraphFault → Type 0
IsOfFront files asking script NoMemory = ⊤
IsOfFront files asking script Words = ⊥
IsOfFront files asking script ReadFault = ⊤
IsOfFront files asking script (BadScript fault) = ⊥
IsOfFront files asking script WriteFault = ⊥
IsOfFront files asking script (Wrong row) = (row.what ≡ InReport) × (row.place ≡ 0) × IfBytes files asking.report (λ bytes. IsBroken script bytes asking.cycle row.number)
