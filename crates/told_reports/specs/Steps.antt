-- The lines of a source, one after the other, each in its place.
--     GoesOn bytes left texts      the bytes have these lines in front of what is left
--     Steps limits place before after line behind      the line that comes next, in its place
--     HasRead script start left place lines      the lines that were read of a source, from the start to the place
--     IsOfStep limits place left number fault      what a fault says that ended a reading
use Rattle.std.specs.Prelude.{◌≡◌, ℕ, List, [], ◌∷◌, ◌++◌, All, IfSome, map, ⊤, Option, Some, None}
use Rattle.check_model.specs.Checking.{ended_lines}
use Rattle.session_model.specs.Scripts.{Script}
use Rattle.told_laws.specs.report_reader.specs.Forms.{IsLineForm, line_text}
use Rattle.told_laws.specs.report_reader.specs.declared.rows.Line.{Line}
use Rattle.told_laws.specs.report_laws.specs.Places.{limits_of, next, walk}
use Rattle.told_laws.specs.report_laws.specs.declared.places.Limits.{Limits}
use Rattle.told_laws.specs.report_laws.specs.declared.places.Place.{Place}
use Rattle.told_laws.specs.report_laws.specs.declared.places.Place.TheVariants.{Start}
use Rattle.told_laws.specs.Tellings.{IsStuck}
use Rattle.told_reports.specs.declared.reading.ReportFault.{ReportFault}
use Rattle.told_reports.specs.declared.reading.ReportFault.TheVariants.{Read, Memory, Wrong}

-- the lines of some bytes are these texts, and then those of what is left
abbrev pub GoesOn : Option (List ℕ) → Option (List ℕ) → List (List ℕ) → Type 0
GoesOn None left texts = ⊤
GoesOn (Some bytes) None texts = ⊥
GoesOn (Some bytes) (Some left) texts = ended_lines bytes ≡ texts ++ ended_lines left

pub record Steps (limits : Limits) (place : Place) (before after : Option (List ℕ)) (line : Line) (behind : Place) : Type 0 where
  pub form : IsLineForm line
  pub there : next limits place line ≡ Some behind
  pub text : GoesOn before after (line_text line ∷ [])

-- lines of the form, each in its place
pub record HasRead (script : Script) (start left : Option (List ℕ)) (place : Place) (lines : List Line) : Type 0 where
  pub forms : All IsLineForm lines
  pub texts : GoesOn start left (map line_text lines)
  pub there : walk (limits_of script) Start lines ≡ Some place

abbrev pub IsOfStep : Limits → Place → Option (List ℕ) → ℕ → ReportFault → Type 0
IsOfStep limits place left number Read = ⊤
IsOfStep limits place left number Memory = ⊥
IsOfStep limits place left number (Wrong n) = (n ≡ number) × ((script : Script) → limits ≡ limits_of script → IfSome left (IsStuck script place))
