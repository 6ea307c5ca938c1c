-- The lines that were read of a source.
--     read-none, read-more      before the first line, and one more
--     read-wrong      up to a line that may not come
use Rattle.std.proofs.Common.{ℕ, ◌+◌, List, [], ◌∷◌, ◌++◌, All, length, map, Option, Some, None, refl, sym, ◌∙◌, subst}
use Rattle.std.specs.Prelude.{IfSome}
use Rattle.std.proofs.lemmas.List.{map-append}
use Rattle.check_model.specs.Checking.{IsWrongLine}
use Rattle.session_model.specs.Grammar.{IsScript}
use Rattle.session_model.specs.Scripts.{Script}
use Rattle.session_laws.proofs.ListLemmas.{Each-append}
use Rattle.session_laws.proofs.SerialLossLemmas.{All-from_each}
use Rattle.check_laws.proofs.SameLemmas.{Each-from_all}
use Rattle.told_laws.specs.report_reader.specs.Forms.{IsLineForm, line_text}
use Rattle.told_laws.specs.report_reader.specs.declared.rows.Line.{Line}
use Rattle.told_laws.specs.report_laws.proofs.WalkLemmas.{walk-more}
use Rattle.told_laws.specs.report_laws.specs.Places.{limits_of}
use Rattle.told_laws.specs.report_laws.specs.declared.places.Place.{Place}
use Rattle.told_laws.specs.report_laws.specs.declared.places.Place.TheVariants.{Start}
use Rattle.told_laws.proofs.StuckLemmas.{stuck-wrong}
use Rattle.told_laws.specs.Tellings.{IsStuck}
use Rattle.told_reports.specs.Steps.{GoesOn, HasRead, Steps}
use Rattle.told_reports.proofs.StepLemmas.{goes-nil, goes-trans}

pub read-none : (script : Script) (start : Option (List ℕ)) → HasRead script start start Start []
read-none script start = record { forms = All-from_each IsLineForm [] tt; texts = goes-nil start; there = refl }

forms-more : (lines : List Line) (line : Line) → All IsLineForm lines → IsLineForm line → All IsLineForm (lines ++ line ∷ [])
forms-more lines line all one = All-from_each IsLineForm (lines ++ line ∷ []) (Each-append IsLineForm lines (line ∷ []) (Each-from_all IsLineForm lines all) (one, tt))

module _ (script : Script) (start left : Option (List ℕ)) (place : Place) (lines : List Line) (read : HasRead script start left place lines) where
  pub read-more : (after : Option (List ℕ)) (line : Line) (behind : Place) → Steps (limits_of script) place left after line behind → HasRead script start after behind (lines ++ line ∷ [])
  read-more after line behind step = record {
    forms = forms-more lines line read.forms step.form;
    texts = subst (GoesOn start after) (sym (map-append line_text lines (line ∷ []))) (goes-trans start left after (map line_text lines) (line_text line ∷ []) read.texts step.text);
    there = walk-more (limits_of script) Start place lines line read.there ∙ step.there;
  }

  pub read-wrong : IsScript script → IfSome left (IsStuck script place) → IfSome start (λ bytes. IsWrongLine script bytes (length lines + 1))
  read-wrong lawful = go start left read.texts
    where
      go : (s l : Option (List ℕ)) → GoesOn s l (map line_text lines) → IfSome l (IsStuck script place) → IfSome s (λ bytes. IsWrongLine script bytes (length lines + 1))
      go None l goes stuck = tt
      go (Some xs) None goes stuck = absurd goes
      go (Some xs) (Some ys) goes stuck = stuck-wrong script lawful xs ys lines place read.forms read.there goes stuck
