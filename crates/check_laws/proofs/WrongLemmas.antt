-- What explains files has no first wrong part.
--     Form-lines      the lines of a report of the form are whole lines
--     explained-text      the bytes of a report that explains files have the lines of the one computation's report
--     wrong-unexplained
use Rattle.std.proofs.Common.{◌≡◌, ◌<◌, ◌^◌, refl, ◌∙◌, ap}
use Rattle.jack_types.specs.declared.replies.Row.{Row}
use Rattle.session_model.specs.Explanations.{Given, Printed, Written, Explained}
use Rattle.session_model.specs.Grammar.{IsScript}
use Rattle.session_model.specs.Reports.{Report, PrintedCycle, PrintedMeter, PrintedEvent, PrintedRecorder, PrintedDisk, report_lines}
use Rattle.session_model.specs.Scripts.{Script}
use Rattle.grammar_laws.specs.session_laws.proofs.ListLemmas.{Each, Each-weaker}
use Rattle.report_texts.proofs.ReportLemmas.{IsSmallCall, IsSmallOverrun, IsSmallUnderrun, report_are_lines}
use Rattle.grammar_laws.specs.session_laws.proofs.TextLemmas.{Lacks, IsLine}
use Rattle.check_model.specs.Checking.{IsForm, IsNumber, IsCallLine, IsMeterLine, IsEventLine, IsFirstWrong, ended_lines}
use Rattle.check_laws.proofs.ExplainedRight.{whole, explained-right}
use Rattle.check_laws.proofs.FormLemmas.{explained-form}
use Rattle.check_laws.proofs.NameLemmas.{name-lacks}
use Rattle.check_laws.proofs.OneWrong.{none-wrong}
use Rattle.check_laws.proofs.SameLemmas.{Each-from_all, small, IsSmallRecorder, IsSmallDisk, cycles-small, recorders-small, disks-small}
use Rattle.check_laws.proofs.TextBack.{ended-joined}

pub Form-lines : (script : Script) (report : Report) → IsScript script → IsForm script report → Each IsLine (report_lines report)
Form-lines script report is form =
    report_are_lines report
    (record {
      calls = Each-weaker IsCallLine IsSmallCall (λ call h. record { lane = small call.lane h.lane; index = small call.index h.index }) report.calls (Each-from_all IsCallLine report.calls form.call_each);
      cycles = Each-weaker (λ (cycle : PrintedCycle). IsNumber cycle.number) (λ (cycle : PrintedCycle). cycle.number < 2 ^ 64) (λ cycle h. small cycle.number h) report.cycles (cycles-small script is report form);
      meters = Each-weaker IsMeterLine (λ (meter : PrintedMeter). Lacks 10 meter.client) (λ meter h. name-lacks 10 meter.client refl h.client) report.meters (Each-from_all IsMeterLine report.meters form.meter_each);
      events = Each-weaker IsEventLine (λ (event : PrintedEvent). Lacks 10 event.client) (λ event h. name-lacks 10 event.client refl h.client) report.events (Each-from_all IsEventLine report.events form.event_each);
      overruns = Each-weaker IsSmallRecorder (λ (recorder : PrintedRecorder). Each IsSmallOverrun recorder.overruns) (λ recorder h. h.each) report.recorders (recorders-small script is report form);
      underruns = Each-weaker IsSmallDisk (λ (disk : PrintedDisk). Each IsSmallUnderrun disk.underruns) (λ disk h. h.each) report.disks (disks-small script is report form);
    })

module _ (given : Given) (printed : Printed) (written : Written) (script_is : IsScript given.script) (e : Explained given printed written) where
  abbrev report : Report
  report = whole given printed written e

  pub explained-text : ended_lines written.report ≡ report_lines report
  explained-text =
      ap ended_lines e.report ∙ ended-joined (report_lines report) (Form-lines given.script report script_is (explained-form given printed written e script_is))

  pub wrong-unexplained : (row : Row) → IsFirstWrong given written row → ⊥
  wrong-unexplained row w =
      none-wrong given written script_is report (explained-form given printed written e script_is) explained-text (explained-right given printed written e) row w
