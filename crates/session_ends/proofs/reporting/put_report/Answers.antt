use Rattle.std.proofs.Common.{◌≡◌, ◌≤◌, ◌∙◌, length, refl, rules, subst, sym}
use Rattle.session_model.specs.Reports.{Report}
use Rattle.report_lines.proofs.PutLemmas.{first_cut, first_last}
use Rattle.session_works.specs.RunWords.{report_in}
use Rattle.session_works.specs.Insides.{seen}
use Rattle.session_ends.proofs.ReportLemmas.{as-many-disks, behind_calls, behind_cycles, behind_events, behind_meters, behind_recorders, calls-put, calls_text, cause-cut, cause-later, cycles-put, cycles_text, disks-put, disks_text, events-put, events_text, few-disks, last, meters-put, meters_text, recorders-put, recorders_text, text-put, title, took-calls}
use Rattle.session_ends.proofs.reporting.put_report.Goals as goal

pub returns-in_err-put_title-clause-puts : goal.returns-in_err-put_title-clause-puts
returns-in_err-put_title-clause-puts g c = first_cut c.put_title.result c.from_residual.result _ _ title title _ refl c.put_title.ensures.puts _ c.in_err-put_title.was c.from_residual.ensures.0

pub returns-in_err-put_calls-clause-puts : goal.returns-in_err-put_calls-clause-puts
returns-in_err-put_calls-clause-puts g c =
    let report : Report = report_in (seen g.G.Guest.sound c.args.works.now) in
    text-put g.G.Guest.sound c.args.works.now c.from_residual-in_err-put_calls.result _ _ _ c.in_ok-put_title.ensures.puts
    (first_cut c.put_calls.result c.from_residual-in_err-put_calls.result _ _ _ (calls_text report) (behind_calls report) (calls-put g.G.Guest.sound c.args.works.now c.history-history.result.now c.history-history.ensures.value) c.put_calls.ensures.puts _ c.in_err-put_calls.was c.from_residual-in_err-put_calls.ensures.0)

pub returns-in_err-put_cycles-clause-puts : goal.returns-in_err-put_cycles-clause-puts
returns-in_err-put_cycles-clause-puts g c =
    let report : Report = report_in (seen g.G.Guest.sound c.args.works.now) in
    text-put g.G.Guest.sound c.args.works.now c.from_residual-in_err-put_cycles.result _ _ _ c.in_ok-put_title.ensures.puts
    (first_last c.from_residual-in_err-put_cycles.result _ _ _ _ (calls_text report) (behind_calls report) (calls-put g.G.Guest.sound c.args.works.now c.history-history.result.now c.history-history.ensures.value) c.in_ok-put_calls.ensures.puts
    (first_cut c.put_cycles.result c.from_residual-in_err-put_cycles.result _ _ _ (cycles_text report) (behind_cycles report) (cycles-put g.G.Guest.sound c.args.works.now c.numbers.result.now c.moments.result.now c.numbers.ensures c.moments.ensures.value (c.moments.ensures.count c.requires.sound)) c.put_cycles.ensures.puts _ c.in_err-put_cycles.was c.from_residual-in_err-put_cycles.ensures.0))

pub returns-in_err-put_meters-clause-puts : goal.returns-in_err-put_meters-clause-puts
returns-in_err-put_meters-clause-puts g c =
    let report : Report = report_in (seen g.G.Guest.sound c.args.works.now) in
    text-put g.G.Guest.sound c.args.works.now c.from_residual-in_err-put_meters.result _ _ _ c.in_ok-put_title.ensures.puts
    (first_last c.from_residual-in_err-put_meters.result _ _ _ _ (calls_text report) (behind_calls report) (calls-put g.G.Guest.sound c.args.works.now c.history-history.result.now c.history-history.ensures.value) c.in_ok-put_calls.ensures.puts
    (first_last c.from_residual-in_err-put_meters.result _ _ _ _ (cycles_text report) (behind_cycles report) (cycles-put g.G.Guest.sound c.args.works.now c.numbers.result.now c.moments.result.now c.numbers.ensures c.moments.ensures.value (c.moments.ensures.count c.requires.sound)) c.in_ok-put_cycles.ensures.puts
    (first_cut c.put_meters.result c.from_residual-in_err-put_meters.result _ _ _ (meters_text report) (behind_meters report) (meters-put g.G.Guest.sound c.args.works.now c.history-history.result.now c.history-history.ensures.value) c.put_meters.ensures.puts _ c.in_err-put_meters.was c.from_residual-in_err-put_meters.ensures.0)))

pub put_disks-requires : goal.put_disks-requires
put_disks-requires g c =
    let all : c.len.result ≡ length c.args.works.now.readers.items = search rules in (
      all ∙ as-many-disks g.G.Guest.sound c.args.works.now c.requires.one,
      subst (λ n. n ≤ 4) (sym all) (few-disks g.G.Guest.sound c.args.works.now c.requires.one),
    )

pub put_events-requires : goal.put_events-requires
put_events-requires g c = took-calls g.G.Guest.sound c.args.works.now c.requires.one c.requires.met c.accepted_of_legal.ensures.calls

pub returns-in_err-put_events-clause-puts : goal.returns-in_err-put_events-clause-puts
returns-in_err-put_events-clause-puts g c =
    let report : Report = report_in (seen g.G.Guest.sound c.args.works.now) in
    text-put g.G.Guest.sound c.args.works.now c.from_residual-in_err-put_events.result _ _ _ c.in_ok-put_title.ensures.puts
    (first_last c.from_residual-in_err-put_events.result _ _ _ _ (calls_text report) (behind_calls report) (calls-put g.G.Guest.sound c.args.works.now c.history-history.result.now c.history-history.ensures.value) c.in_ok-put_calls.ensures.puts
    (first_last c.from_residual-in_err-put_events.result _ _ _ _ (cycles_text report) (behind_cycles report) (cycles-put g.G.Guest.sound c.args.works.now c.numbers.result.now c.moments.result.now c.numbers.ensures c.moments.ensures.value (c.moments.ensures.count c.requires.sound)) c.in_ok-put_cycles.ensures.puts
    (first_last c.from_residual-in_err-put_events.result _ _ _ _ (meters_text report) (behind_meters report) (meters-put g.G.Guest.sound c.args.works.now c.history-history.result.now c.history-history.ensures.value) c.in_ok-put_meters.ensures.puts
    (first_cut c.put_events.result c.from_residual-in_err-put_events.result _ _ _ (events_text report) (behind_events report) (events-put g.G.Guest.sound c.args.works.now c.history-history.result.now c.history-history.ensures.value) c.put_events.ensures.puts _ c.in_err-put_events.was c.from_residual-in_err-put_events.ensures.0))))

pub returns-in_err-put_events-clause-cause : goal.returns-in_err-put_events-clause-cause
returns-in_err-put_events-clause-cause g c =
    cause-cut c.put_events.result c.from_residual-in_err-put_events.result _ _ _ _ ((rw c.in_ok-put_meters.was at c.put_meters.ensures.cause.kept) ∙ (rw c.in_ok-put_cycles.was at c.put_cycles.ensures.cause.kept) ∙ (rw c.in_ok-put_calls.was at c.put_calls.ensures.cause.kept) ∙ (rw c.in_ok-put_title.was at c.put_title.ensures.cause.kept)) c.put_events.ensures.cause c.in_err-put_events.was c.from_residual-in_err-put_events.ensures.0

pub returns-in_err-put_recorders-clause-puts : goal.returns-in_err-put_recorders-clause-puts
returns-in_err-put_recorders-clause-puts g c =
    let report : Report = report_in (seen g.G.Guest.sound c.args.works.now) in
    text-put g.G.Guest.sound c.args.works.now c.from_residual-in_err-put_recorders.result _ _ _ c.in_ok-put_title.ensures.puts
    (first_last c.from_residual-in_err-put_recorders.result _ _ _ _ (calls_text report) (behind_calls report) (calls-put g.G.Guest.sound c.args.works.now c.history-history.result.now c.history-history.ensures.value) c.in_ok-put_calls.ensures.puts
    (first_last c.from_residual-in_err-put_recorders.result _ _ _ _ (cycles_text report) (behind_cycles report) (cycles-put g.G.Guest.sound c.args.works.now c.numbers.result.now c.moments.result.now c.numbers.ensures c.moments.ensures.value (c.moments.ensures.count c.requires.sound)) c.in_ok-put_cycles.ensures.puts
    (first_last c.from_residual-in_err-put_recorders.result _ _ _ _ (meters_text report) (behind_meters report) (meters-put g.G.Guest.sound c.args.works.now c.history-history.result.now c.history-history.ensures.value) c.in_ok-put_meters.ensures.puts
    (first_last c.from_residual-in_err-put_recorders.result _ _ _ _ (events_text report) (behind_events report) (events-put g.G.Guest.sound c.args.works.now c.history-history.result.now c.history-history.ensures.value) c.in_ok-put_events.ensures.puts
    (first_cut c.put_recorders.result c.from_residual-in_err-put_recorders.result _ _ _ (recorders_text report) (behind_recorders report) (recorders-put g.G.Guest.sound c.args.works.now c.as_slice.result.now c.overruns.result.now c.requires.one c.as_slice.ensures.value c.overruns.ensures) c.put_recorders.ensures.puts _ c.in_err-put_recorders.was c.from_residual-in_err-put_recorders.ensures.0)))))

pub returns-in_err-put_recorders-clause-cause : goal.returns-in_err-put_recorders-clause-cause
returns-in_err-put_recorders-clause-cause g c =
    cause-cut c.put_recorders.result c.from_residual-in_err-put_recorders.result _ _ _ _ ((rw c.in_ok-put_events.was at c.put_events.ensures.cause.kept) ∙ (rw c.in_ok-put_meters.was at c.put_meters.ensures.cause.kept) ∙ (rw c.in_ok-put_cycles.was at c.put_cycles.ensures.cause.kept) ∙ (rw c.in_ok-put_calls.was at c.put_calls.ensures.cause.kept) ∙ (rw c.in_ok-put_title.was at c.put_title.ensures.cause.kept)) c.put_recorders.ensures.cause c.in_err-put_recorders.was c.from_residual-in_err-put_recorders.ensures.0

pub returns-in_err-put_disks-clause-puts : goal.returns-in_err-put_disks-clause-puts
returns-in_err-put_disks-clause-puts g c =
    let report : Report = report_in (seen g.G.Guest.sound c.args.works.now) in
    let all : c.len.result ≡ length c.args.works.now.readers.items = search rules in
    text-put g.G.Guest.sound c.args.works.now c.from_residual-in_err-put_disks.result _ _ _ c.in_ok-put_title.ensures.puts
    (first_last c.from_residual-in_err-put_disks.result _ _ _ _ (calls_text report) (behind_calls report) (calls-put g.G.Guest.sound c.args.works.now c.history-history.result.now c.history-history.ensures.value) c.in_ok-put_calls.ensures.puts
    (first_last c.from_residual-in_err-put_disks.result _ _ _ _ (cycles_text report) (behind_cycles report) (cycles-put g.G.Guest.sound c.args.works.now c.numbers.result.now c.moments.result.now c.numbers.ensures c.moments.ensures.value (c.moments.ensures.count c.requires.sound)) c.in_ok-put_cycles.ensures.puts
    (first_last c.from_residual-in_err-put_disks.result _ _ _ _ (meters_text report) (behind_meters report) (meters-put g.G.Guest.sound c.args.works.now c.history-history.result.now c.history-history.ensures.value) c.in_ok-put_meters.ensures.puts
    (first_last c.from_residual-in_err-put_disks.result _ _ _ _ (events_text report) (behind_events report) (events-put g.G.Guest.sound c.args.works.now c.history-history.result.now c.history-history.ensures.value) c.in_ok-put_events.ensures.puts
    (first_last c.from_residual-in_err-put_disks.result _ _ _ _ (recorders_text report) (behind_recorders report) (recorders-put g.G.Guest.sound c.args.works.now c.as_slice.result.now c.overruns.result.now c.requires.one c.as_slice.ensures.value c.overruns.ensures) c.in_ok-put_recorders.ensures.puts
    (first_cut c.put_disks.result c.from_residual-in_err-put_disks.result _ _ _ (disks_text report) last (disks-put g.G.Guest.sound c.args.works.now c.len.result c.requires.one all) c.put_disks.ensures.puts _ c.in_err-put_disks.was c.from_residual-in_err-put_disks.ensures.0))))))

pub returns-in_err-put_disks-clause-cause : goal.returns-in_err-put_disks-clause-cause
returns-in_err-put_disks-clause-cause g c =
    cause-cut c.put_disks.result c.from_residual-in_err-put_disks.result _ _ _ _ ((rw c.in_ok-put_recorders.was at c.put_recorders.ensures.cause.kept) ∙ (rw c.in_ok-put_events.was at c.put_events.ensures.cause.kept) ∙ (rw c.in_ok-put_meters.was at c.put_meters.ensures.cause.kept) ∙ (rw c.in_ok-put_cycles.was at c.put_cycles.ensures.cause.kept) ∙ (rw c.in_ok-put_calls.was at c.put_calls.ensures.cause.kept) ∙ (rw c.in_ok-put_title.was at c.put_title.ensures.cause.kept)) c.put_disks.ensures.cause c.in_err-put_disks.was c.from_residual-in_err-put_disks.ensures.0

pub returns-clause-puts : goal.returns-clause-puts
returns-clause-puts g c =
    let report : Report = report_in (seen g.G.Guest.sound c.args.works.now) in
    let all : c.len.result ≡ length c.args.works.now.readers.items = search rules in
    text-put g.G.Guest.sound c.args.works.now c.put_end.result _ _ _ c.in_ok-put_title.ensures.puts
    (first_last c.put_end.result _ _ _ _ (calls_text report) (behind_calls report) (calls-put g.G.Guest.sound c.args.works.now c.history-history.result.now c.history-history.ensures.value) c.in_ok-put_calls.ensures.puts
    (first_last c.put_end.result _ _ _ _ (cycles_text report) (behind_cycles report) (cycles-put g.G.Guest.sound c.args.works.now c.numbers.result.now c.moments.result.now c.numbers.ensures c.moments.ensures.value (c.moments.ensures.count c.requires.sound)) c.in_ok-put_cycles.ensures.puts
    (first_last c.put_end.result _ _ _ _ (meters_text report) (behind_meters report) (meters-put g.G.Guest.sound c.args.works.now c.history-history.result.now c.history-history.ensures.value) c.in_ok-put_meters.ensures.puts
    (first_last c.put_end.result _ _ _ _ (events_text report) (behind_events report) (events-put g.G.Guest.sound c.args.works.now c.history-history.result.now c.history-history.ensures.value) c.in_ok-put_events.ensures.puts
    (first_last c.put_end.result _ _ _ _ (recorders_text report) (behind_recorders report) (recorders-put g.G.Guest.sound c.args.works.now c.as_slice.result.now c.overruns.result.now c.requires.one c.as_slice.ensures.value c.overruns.ensures) c.in_ok-put_recorders.ensures.puts
    (first_last c.put_end.result _ _ _ _ (disks_text report) last (disks-put g.G.Guest.sound c.args.works.now c.len.result c.requires.one all) c.in_ok-put_disks.ensures.puts
    c.put_end.ensures.puts))))))

pub returns-clause-cause : goal.returns-clause-cause
returns-clause-cause g c =
    cause-later c.put_end.result _ _ _ ((rw c.in_ok-put_disks.was at c.put_disks.ensures.cause.kept) ∙ (rw c.in_ok-put_recorders.was at c.put_recorders.ensures.cause.kept) ∙ (rw c.in_ok-put_events.was at c.put_events.ensures.cause.kept) ∙ (rw c.in_ok-put_meters.was at c.put_meters.ensures.cause.kept) ∙ (rw c.in_ok-put_cycles.was at c.put_cycles.ensures.cause.kept) ∙ (rw c.in_ok-put_calls.was at c.put_calls.ensures.cause.kept) ∙ (rw c.in_ok-put_title.was at c.put_title.ensures.cause.kept)) c.put_end.ensures.cause
