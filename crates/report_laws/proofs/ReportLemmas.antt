-- Texts that are read line by line, and reports.
--     whole-read, read-whole      whole reports
--     rest-read      what leads to a place goes on to the end
--     begins-read, read-begins, few-read, read-few      so many lines
use Rattle.std.proofs.Common.{◌≡◌, ℕ, zero, suc, ◌<◌, ◌≤◌, List, [], ◌∷◌, ◌++◌, length, map, take, drop, All, refl, sym, ◌∙◌, ap, subst, arith}
use Rattle.std.specs.Prelude.{option_and_then}
use Rattle.std.proofs.lemmas.List.{map-append, length-take, take_all, take-append-drop}
use Rattle.check_model.specs.Checking.{BeginsReport, IsForm, ended_lines}
use Rattle.session_model.specs.Grammar.{IsScript}
use Rattle.session_model.specs.Reports.{Report, report_lines}
use Rattle.session_model.specs.Scripts.{Script}
use Rattle.session_laws.proofs.ListLemmas.{Each-append, map-take}
use Rattle.session_laws.proofs.SerialLossLemmas.{All-from_each}
use Rattle.report_reader.specs.check_laws.proofs.SameLemmas.{Each-from_all}
use Rattle.report_reader.specs.check_laws.proofs.StateFits.{Each-take}
use Rattle.report_reader.proofs.RowLemmas.{form-rows, rows-form, rows-printed}
use Rattle.report_reader.specs.Forms.{IsLineForm, line_text}
use Rattle.report_reader.specs.Reports.{report_rows}
use Rattle.report_reader.specs.declared.rows.Line.{Line}
use Rattle.report_laws.specs.Places.{IsRead, limits_of, rest, walk}
use Rattle.report_laws.specs.declared.places.Place.{Place}
use Rattle.report_laws.specs.declared.places.Place.TheVariants.{Start, Done}
use Rattle.report_laws.proofs.ReadLemmas.{lines-report}
use Rattle.report_laws.proofs.RestLemmas.{rest-form, rest-walks, walk-near}
use Rattle.report_laws.proofs.WalkLemmas.{report-walks, walk-append, walk-prefix}

front : {X : Type 0} (n : ℕ) (xs ys : List X) → length xs ≡ n → take n (xs ++ ys) ≡ xs
front zero [] ys e = refl
front (suc n) [] ys e = absurd (omega (arith, e))
front zero (x ∷ xs) ys e = absurd (omega (arith, e))
front (suc n) (x ∷ xs) ys e = ap (λ (zs : List _). x ∷ zs) (front n xs ys (omega (arith, e)))

module _ (script : Script) (script_is : IsScript script) where
  pub whole-read : (texts : List (List ℕ)) → (report : Report) × IsForm script report × (texts ≡ report_lines report) → IsRead script texts Done
  whole-read texts it =
      let rows = form-rows script script_is it.0 it.1 in
      (report_rows it.0, rows.1, it.2 ∙ sym (rows-printed it.0), report-walks script it.0 rows.0)

  pub read-whole : (texts : List (List ℕ)) → IsRead script texts Done → (report : Report) × IsForm script report × (texts ≡ report_lines report)
  read-whole texts it =
      let found = lines-report script it.0 (Each-from_all IsLineForm it.0 it.1) it.3 in
      (found.0, rows-form script script_is found.0 found.1 (subst (All IsLineForm) found.2 it.1), it.2 ∙ ap (map line_text) found.2 ∙ rows-printed found.0)

  pub rest-read : (texts : List (List ℕ)) (place : Place) → IsRead script texts place → IsRead script (texts ++ map line_text (rest (limits_of script) place)) Done
  rest-read texts place it =
      let near = walk-near (limits_of script) it.0 Start tt place it.3 in
      let more : List Line = rest (limits_of script) place in (
        it.0 ++ more,
        All-from_each IsLineForm (it.0 ++ more) (Each-append IsLineForm it.0 more (Each-from_all IsLineForm it.0 it.1) (rest-form script script_is place near)),
        ap (λ (ts : List (List ℕ)). ts ++ map line_text more) it.2 ∙ sym (map-append line_text it.0 more),
        walk-append (limits_of script) Start it.0 more ∙ ap (option_and_then (λ q. walk (limits_of script) q more)) it.3 ∙ rest-walks script place near,
      )

  pub begins-read : (bytes : List ℕ) (n : ℕ) → BeginsReport script bytes n → (place : Place) × IsRead script (take n (ended_lines bytes)) place
  begins-read bytes n it =
      let rows = form-rows script script_is it.0 it.1 in
      let lines : List Line = report_rows it.0 in
      let walked = walk-prefix (limits_of script) Start Done (take n lines) (drop n lines) (ap (walk (limits_of script) Start) (take-append-drop n lines) ∙ report-walks script it.0 rows.0) in (
        walked.0,
        (
          take n lines,
          All-from_each IsLineForm (take n lines) (Each-take IsLineForm n lines (Each-from_all IsLineForm lines rows.1)),
          it.2 ∙ ap (take n) (sym (rows-printed it.0)) ∙ sym (map-take line_text n lines),
          walked.1,
        ),
      )

  pub read-begins : (bytes : List ℕ) (n : ℕ) → n ≤ length (ended_lines bytes) → (place : Place) × IsRead script (take n (ended_lines bytes)) place → BeginsReport script bytes n
  read-begins bytes n fits it =
      let texts : List (List ℕ) = take n (ended_lines bytes) in
      let more : List (List ℕ) = map line_text (rest (limits_of script) it.0) in
      let found = read-whole (texts ++ more) (rest-read texts it.0 it.1) in
      let long : length texts ≡ n = omega (arith, length-take n (ended_lines bytes), fits) in
      (found.0, found.1, sym (front n texts more long) ∙ ap (take n) found.2)

  pub few-read : (bytes : List ℕ) (n : ℕ) → length (ended_lines bytes) < n → BeginsReport script bytes n → IsRead script (ended_lines bytes) Done
  few-read bytes n few it =
      let all : take n (ended_lines bytes) ≡ ended_lines bytes = take_all n (ended_lines bytes) (omega (arith, few)) in
      let same : ended_lines bytes ≡ take n (report_lines it.0) = sym all ∙ it.2 in
      let len : length (ended_lines bytes) ≡ length (take n (report_lines it.0)) = ap (λ (ts : List (List ℕ)). length ts) same in
      let short : length (report_lines it.0) ≤ n = omega (arith, length-take n (report_lines it.0), len, few) in
      whole-read (ended_lines bytes) (it.0, it.1, same ∙ take_all n (report_lines it.0) short)

  pub read-few : (bytes : List ℕ) (n : ℕ) → IsRead script (ended_lines bytes) Done → BeginsReport script bytes n
  read-few bytes n it = let found = read-whole (ended_lines bytes) it in (found.0, found.1, ap (take n) found.2)
