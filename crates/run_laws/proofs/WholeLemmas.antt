-- All that a session wrote is explained.
--     Explained-whole      behind a run and an end, both with Ok
use Rattle.std.proofs.Common.{◌≡◌, ℕ, ◌<◌, List, [], length, map, slice_get, slice_index_or, IfSome, Some, sym, ◌∙◌, ap, subst}
use Rattle.std.specs.Prelude.{flat_map}
use Rattle.std.proofs.lemmas.Option.{slice_get-get_or}
use Rattle.jack_types.specs.declared.replies.Overrun.{Overrun}
use Rattle.session_model.specs.Explanations.{Explained, Given, Printed, course_of, playback_text}
use Rattle.session_model.specs.Histories.{Cycles, Legal}
use Rattle.session_model.specs.Recorders.{Lost}
use Rattle.session_model.specs.Reports.{Report, report_lines, report_of, report_text}
use Rattle.session_model.specs.Scripts.{Script, phases}
use Rattle.session_laws.proofs.ActivationLemmas.{get_or-map_below, length-map_below}
use Rattle.driver_laws.specs.Drivers.{overruns_on, underruns_on}
use Rattle.serial_lanes.specs.Laws.{CyclesTotal}
use Rattle.run_laws.specs.Runs.{RanPhases}
use Rattle.run_laws.specs.Sessions.{IsGiven, Session, course_in, printed_of}
use Rattle.run_laws.specs.Told.{Ends, Runs, report_in, text_in}
use Rattle.run_laws.proofs.PlaceLemmas.{mapped_there}
use Rattle.run_laws.proofs.ReportLemmas.{KeptAreCounted, report_in-of}

pub Explained-whole : KeptAreCounted → CyclesTotal → (before between after : Session) (given : Given) (playback : List ℕ) (records : List (List ℕ))
    → IsGiven before given → Runs before between → Ends given between after
    → after.playback_file ≡ Some playback → after.record_files ≡ map Some records → length records ≡ length before.script.header.recorders
    → Explained given (printed_of between) (record { playback = playback; records = records; report = text_in after })
Explained-whole kept total before between after given playback records is_given runs ends playback_is records_are count =
    let same : given.script ≡ before.script = is_given.own.script in
    let script : between.script ≡ given.script = runs.script ∙ sym same in
    let after_script : between.script ≡ after.script = script ∙ ends.given_kept.own.script in
    let recorders : length between.script.header.recorders ≡ length given.script.header.recorders = ap (λ (s : Script). length s.header.recorders) script in
    let disks : length between.script.header.disks ≡ length given.script.header.disks = ap (λ (s : Script). length s.header.disks) script in
    let ran : RanPhases after (length (phases after.script)) = subst (λ (s : Script). RanPhases after (length (phases s))) after_script ends.ran in
    let report : report_in after ≡ report_of (course_in given after) after.desk.history (printed_of after).overruns = report_in-of kept total after given ran ends.given_kept ends.counted in
    record {
      legal = subst (λ (s : Script). Legal s between.desk.history) script runs.lists.legal;
      cycles = subst (λ (s : Script). Cycles s between.desk.history between.driver.numbers) script runs.lists.cycles;
      overruns = length-map_below (overruns_on between.driver.overruns) (length between.script.header.recorders) ∙ recorders;
      records = count ∙ ap (λ (s : Script). length s.header.recorders) (sym same);
      recorders = λ r h.
          let low : r < length before.script.header.recorders = subst (λ (s : Script). r < length s.header.recorders) same h in
          let low_between : r < length between.script.header.recorders = subst (λ n. r < n) (sym recorders) h in
          let text : List ℕ = slice_index_or records r [] in
          let here : slice_get after.record_files r ≡ Some (Some text) =
          ap (λ fs. slice_get fs r) records_are ∙ mapped_there (λ (bytes : List ℕ). Some bytes) records r text (slice_get-get_or records r [] (subst (λ n. r < n) (sym count) low)) in
          record {
            lost = subst (λ (losses : List Overrun). Lost (course_in given between) losses r) (sym (get_or-map_below (overruns_on between.driver.overruns) (length between.script.header.recorders) r [] low_between)) (runs.lost given is_given r low);
            file = ends.records r (Some text) here;
          };
      underruns = length-map_below (underruns_on between.driver.underruns) (length between.script.header.disks) ∙ disks;
      disks = λ d h. runs.disks given is_given d (subst (λ (s : Script). d < length s.header.disks) same h);
      playback = subst (λ told. IfSome told (λ bytes. bytes ≡ playback_text given (printed_of between))) playback_is ends.playback;
      report = ap (λ (r : Report). flat_map (λ text. text) (report_lines r)) report ∙ ap (λ (p : Printed). report_text (course_of given p) p.history p.overruns) ends.printed;
    }
