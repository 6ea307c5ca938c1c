-- A cycle of a check, from what its calls left.
--     InPlace, OfForm      what the rows of a whole report are, as laws of theirs
--     stepped-of      the step of the walk
--     number-wrong, shown-wrong      the cycle is the first that is not right
--     stays-right      all cycles are right behind it
--     counts-stepped, counts-heard      the counts behind the step, and behind the cycle
use Rattle.std.proofs.Common.{◌≡◌, ℕ, ◌+◌, ◌*◌, ◌≤◌, ◌∷◌, ◌++◌, Bool, true, false, List, [], length, take, slice_get, ℤ, Some, sym, ◌∙◌, ap, subst}
use Rattle.std.specs.Prelude.{OnOk, Result, is_err}
use Rattle.std.proofs.lemmas.List.{length_push}
use Rattle.jack_types.specs.declared.commands.Change.{Change}
use Rattle.jack_types.specs.declared.moments.Moment.{Moment}
use Rattle.jack_host.specs.Causes.{HasCause}
use Rattle.check_model.specs.Checking.{IsCycleInTurn, IsFirstNot, IsForm, printed_of}
use Rattle.session_model.specs.Courses.{Course, number}
use Rattle.session_model.specs.Explanations.{Given, Written}
use Rattle.session_model.specs.Grammar.{IsScript}
use Rattle.session_model.specs.Histories.{accepted}
use Rattle.session_model.specs.Kinds.{Sound}
use Rattle.session_model.specs.Scripts.{Script}
use Rattle.session_model.specs.Transport.{moment}
use Rattle.client_kinds.specs.Scores.{Score}
use Rattle.driver_laws.specs.Drivers.{channels_on, run}
use Rattle.check_parts.specs.part_laws.specs.Tables.{is_shown}
use Rattle.report_reader.specs.Forms.{printed_cycle}
use Rattle.report_reader.specs.declared.rows.CycleLine.{CycleLine}
use Rattle.report_reader.specs.declared.rows.Line.{Line}
use Rattle.walk_laws.specs.Walks.{MayWalk}
use Rattle.check_walk.specs.Walkings.{AsksNoDisk, GoesAlong, Walking, block_at, driver_in}
use Rattle.check_parts.specs.Called.{is_right_number}
use Rattle.check_parts.specs.Noted.{Noted}
use Rattle.file_compare.specs.Comparisons.{Compared}
use Rattle.told_reports.specs.Kept.{AreInPlace, report_kept}
use Rattle.told_reports.specs.Tellings.{IsTold, Rows}
use Rattle.session_check.specs.Counts.{Counted, counts_of, faults_of}
use Rattle.session_check.specs.Heard.{Hears}
use Rattle.session_check.specs.Passes.{AreTold, AtCycle, IsFirstWrongCycle, IsTurn, IsUnderway, Passing, StaysRight, course_in, pass_of}
use Rattle.session_check.proofs.AtLemmas.{ByTwoTests, OneMore, along-after, at-next, wrong-number, wrong-shown}
use Rattle.session_check.proofs.CountLemmas.{counted-behind, counted-first, counted-flag, counted-then}
use Rattle.session_check.proofs.StopLemmas.{ok-is}
use Rattle.session_check.proofs.UnderwayLemmas.{IsStepped}

abbrev pub InPlace : Type 0
InPlace = (script : Script) → IsScript script → (lines : List Line) (rows : Rows) → IsTold script lines rows → AreInPlace script rows

abbrev pub OfForm : Type 0
OfForm = (script : Script) → IsScript script → (lines : List Line) (rows : Rows) → IsTold script lines rows → IsForm script (report_kept rows)

pub stepped-of : {T E : Type 0} (changes : List Change) (number : ℕ) (freewheel : Bool) (before after : Walking) (result : Result T E) → is_err result ≡ false
    → OnOk result (after.publishing.all ≡ take number changes) → OnOk result (after.gear.numbers ≡ before.gear.numbers ++ number ∷ [])
    → (after.gear.script ≡ before.gear.script) × (after.gear.set ≡ before.gear.set) × (length after.takers ≡ length before.takers) → after.gear.failed ≡ is_err result
    → OnOk result ((recorder : ℕ) (samples : List ℤ) → block_at after recorder ≡ Some samples → length samples ≤ before.gear.set * channels_on before.gear.script recorder)
    → OnOk result (freewheel ≡ false → length after.played ≡ before.gear.set * before.gear.script.header.playback) → IsStepped changes number freewheel before after
stepped-of changes number freewheel before after result sound published numbers same failed blocks played = record {
  published = ok-is result _ sound published;
  numbers = ok-is result _ sound numbers;
  script = same.0;
  set = same.1;
  takers = same.2;
  going = failed ∙ sound;
  blocks = ok-is result _ sound blocks;
  played = ok-is result _ sound played;
}

module _ (sounding : Score → Sound) (script : Script) (rows : Rows) (told : AreTold script rows) (in_place : InPlace) (of_form : OfForm) (passing : Passing) (underway : IsUnderway script rows passing)
    (phase : ℕ) (freewheel : Bool) (next : IsTurn script (passing.done + 1) phase freewheel passing.walking.gear.set) (row : CycleLine) (here : slice_get rows.cycles passing.done ≡ Some row) (tests : ByTwoTests) where
  form : IsForm script (report_kept rows)
  form = of_form script told.lawful told.lines rows told.told

  places : AreInPlace script rows
  places = in_place script told.lawful told.lines rows told.told

  abbrev IsFirst : Given → ℕ → Type 0
  IsFirst given n = IsFirstNot (IsCycleInTurn (course_in given (report_kept rows)) (printed_of given.script (report_kept rows)) (report_kept rows)) n

  pub number-wrong : is_right_number passing.called row.number passing.last phase (passing.done + 1) ≡ false → (n : ℕ) → passing.done + 1 ≡ n → IsFirstWrongCycle sounding script rows passing n
  number-wrong off n same given written at = subst (IsFirst given) same (wrong-number sounding script rows given written passing form places underway at phase freewheel next row here tests off)

  -- behind the step
  module _ (changes : List Change) (taken : ℕ) (after : Walking) (stepped : IsStepped changes taken freewheel passing.walking after)
      (steps : (course : Course) → GoesAlong sounding course passing.walking → MayWalk course (driver_in sounding passing.walking) → course.changes ≡ changes
      → number course (run (driver_in sounding passing.walking) + 1) ≡ taken → AsksNoDisk course → GoesAlong sounding course after)
      (changes_are : changes ≡ accepted passing.called.history) (number_is : row.number ≡ taken) (rises : passing.last ≤ taken) (few : taken ≤ length (accepted passing.called.history))
      (seen : Moment) (seen_is : (course : Course) → GoesAlong sounding course after → seen ≡ moment course (run (driver_in sounding after))) (answer : Bool) (answer_is : answer ≡ is_shown (printed_cycle row).moment seen) where
    run-after : length after.gear.numbers ≡ passing.done + 1
    run-after = ap length stepped.numbers ∙ length_push passing.walking.gear.numbers taken ∙ ap (λ n. n + 1) underway.run

    module _ (given : Given) (written : Written) (at : AtCycle sounding script given written (report_kept rows) passing) where
      along : GoesAlong sounding (course_in given (report_kept rows)) after
      along = along-after sounding script rows given written passing form places underway at phase freewheel next row here changes taken after steps changes_are number_is rises few told.no_disks

      shown-is : is_shown (printed_cycle row).moment (moment (course_in given (report_kept rows)) (passing.done + 1)) ≡ answer
      shown-is = ap (is_shown (printed_cycle row).moment) (sym (seen_is (course_in given (report_kept rows)) along ∙ ap (moment (course_in given (report_kept rows))) run-after)) ∙ sym answer_is

    pub shown-wrong : answer ≡ false → (n : ℕ) → passing.done + 1 ≡ n → IsFirstWrongCycle sounding script rows passing n
    shown-wrong off n same given written at =
        subst (IsFirst given) same (wrong-shown sounding script rows given written passing form places underway at phase freewheel next row here tests (shown-is given written at ∙ off))

    pub stays-right : is_right_number passing.called row.number passing.last phase (passing.done + 1) ≡ true → answer ≡ true → OneMore
        → (takings : List Noted) (playback : Compared) (records : List Compared) → Hears script.header after freewheel passing.takings passing.playback passing.records takings playback records
        → StaysRight sounding script rows passing (pass_of passing.called after takings playback records (passing.done + 1) taken)
    stays-right in_bounds on more takings playback records hears given written at =
        at-next sounding script rows given written passing form places underway at phase freewheel next row here tests changes taken after stepped number_is in_bounds (shown-is given written at ∙ on)
        (along given written at) run-after (stepped.takers ∙ underway.takers) more takings playback records hears

-- ---- the counts of faults

pub counts-stepped : {T E : Type 0} (capture after report : ℕ) (playback : Compared) (records : List Compared) (result : Result T E) (failed : Bool) → HasCause capture after result → is_err result ≡ failed
    → Counted (counts_of capture report playback records) (counts_of after report playback records) failed
counts-stepped capture after report playback records result failed cause same = counted-flag _ _ _ _ same (counted-first capture after (report ∷ playback.faults ∷ faults_of records) result cause)

pub counts-heard : {T E : Type 0} (capture after report : ℕ) (playback playback_after : Compared) (records records_after : List Compared) (result : Result T E) (deaf failed : Bool) → HasCause capture after result → is_err result ≡ false
    → Counted (playback.faults ∷ faults_of records) (playback_after.faults ∷ faults_of records_after) deaf → deaf ≡ failed → Counted (counts_of capture report playback records) (counts_of after report playback_after records_after) failed
counts-heard capture after report playback playback_after records records_after result deaf failed cause sound counted same =
    counted-flag _ _ _ _ same
    (counted-then (counts_of capture report playback records) (counts_of after report playback records) (counts_of after report playback_after records_after) (is_err result) deaf sound
    (counted-first capture after (report ∷ playback.faults ∷ faults_of records) result cause)
    (counted-behind after (report ∷ playback.faults ∷ faults_of records) (report ∷ playback_after.faults ∷ faults_of records_after) deaf
    (counted-behind report (playback.faults ∷ faults_of records) (playback_after.faults ∷ faults_of records_after) deaf counted)))
