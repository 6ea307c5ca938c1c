-- What a report tells up to the line of a cycle.
--     calls_in lines      the lines of calls among lines
--     IsFront script bytes calls cycle      the calls and the cycle's line that the bytes tell
--     IsBroken script bytes cycle n      line n is the first wrong one, and the cycle's line is none before it
use Rattle.std.specs.Prelude.{◌≡◌, ℕ, ◌+◌, ◌-◌, ◌<◌, List, [], ◌∷◌, ◌++◌, All, length, map, filter_map, take, Some, ⊤}
use Rattle.check_model.specs.Checking.{IsWrongLine, ended_lines}
use Rattle.session_model.specs.Scripts.{Script}
use Rattle.report_reader.specs.Forms.{IsLineForm, line_text}
use Rattle.report_reader.specs.declared.rows.CallLine.{CallLine}
use Rattle.report_reader.specs.declared.rows.CycleLine.{CycleLine}
use Rattle.report_reader.specs.declared.rows.Line.{Line}
use Rattle.report_reader.specs.declared.rows.Line.TheVariants.{Cycle}
use Rattle.report_laws.specs.Places.{IsRead, limits_of, walk}
use Rattle.report_laws.specs.declared.places.Place.{Place}
use Rattle.report_laws.specs.declared.places.Place.TheVariants.{Start, Calls, Cycles, Meters, Events, Recorders, Disks, Done}
use Rattle.told_laws.specs.Tellings.{call_in}

abbrev pub calls_in : List Line → List CallLine
calls_in lines = filter_map call_in lines

-- the first lines of the bytes, each of the form of a report's line in its place, lead to the cycle's line, and have these calls
pub record IsFront (script : Script) (bytes : List ℕ) (calls : List CallLine) (cycle : CycleLine) : Type 0 where
  pub before : List Line
  pub forms : All IsLineForm (before ++ Cycle cycle ∷ [])
  pub texts : take (length before + 1) (ended_lines bytes) ≡ map line_text (before ++ Cycle cycle ∷ [])
  pub there : walk (limits_of script) Start (before ++ Cycle cycle ∷ []) ≡ Some (Cycles cycle.cycle)
  pub calls_are : calls ≡ calls_in before

-- what was read up to a place has no line of the cycle
abbrev pub IsBefore : ℕ → Place → Type 0
IsBefore cycle Start = ⊤
IsBefore cycle (Calls calls) = ⊤
IsBefore cycle (Cycles cycles) = cycles < cycle
IsBefore cycle (Meters meters) = ⊥
IsBefore cycle (Events events) = ⊥
IsBefore cycle (Recorders recorders left) = ⊥
IsBefore cycle (Disks disks left) = ⊥
IsBefore cycle Done = ⊥

pub record IsBroken (script : Script) (bytes : List ℕ) (cycle n : ℕ) : Type 0 where
  pub wrong : IsWrongLine script bytes n
  pub place : Place
  pub read : IsRead script (take (n - 1) (ended_lines bytes)) place
  pub before : IsBefore cycle place
