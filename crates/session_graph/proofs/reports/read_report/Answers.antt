use Rattle.std.proofs.Common.{◌≡◌, ◌∙◌, ◌++◌, ◌∷◌, [], Option, ap, append-nil, arith, length, refl, rules, sym}
use Rattle.std.specs.List.{cons_option}
use Rattle.session_model.specs.Scripts.{turns}
use Rattle.report_reader.specs.declared.rows.CallLine.{CallLine}
use Rattle.report_laws.specs.declared.places.Limits.{Limits}
use Rattle.session_graph.specs.Readings.{IsOfReport}
use Rattle.session_graph.proofs.FileLemmas.{kept-err}
use Rattle.session_graph.proofs.FrontLemmas.{goes-on, step-fault, told-front}
use Rattle.session_graph.proofs.reports.read_report.Goals as goal

pub returns-in_err-line-clause-fault : goal.returns-in_err-line-clause-fault
returns-in_err-line-clause-fault g c =
    let e : c.limits_of-limits.result.cycles ≡ length (turns c.args.script.now) = ap (λ (l : Limits). l.cycles) c.limits_of-limits.ensures.limits in
    kept-err c.from_residual.result _ (IsOfReport c.args.script.now c.args.lines.now.left c.args.cycle) c.from_residual.ensures.1
    (step-fault c.args.script.now c.limits_of-limits.result c.reading.invariant.limits c.args.cycle c.requires.counted (omega (arith, e, c.requires.there)) c.args.lines.now.left c.reading.lines.left c.reading.place c.reading.number
    c.reading.calls.items c.reading.invariant.has c.reading.invariant.before c.reading.invariant.lawful _ c.in_err-line.ensures.fault)

pub returns-in-Some-clause-front : goal.returns-in-Some-clause-front
returns-in-Some-clause-front g c =
    let e : c.limits_of-limits.result.cycles ≡ length (turns c.args.script.now) = ap (λ (l : Limits). l.cycles) c.limits_of-limits.ensures.limits in
    told-front c.args.script.now c.limits_of-limits.result c.reading.invariant.limits c.args.cycle c.requires.counted (omega (arith, e, c.requires.there)) c.args.lines.now.left c.reading.lines.left c.reading.place c.reading.number
    c.reading.calls.items c.reading.invariant.has c.reading.invariant.before c.reading.invariant.near c.step.new.lines.left c.in_ok-line.line c.in_ok-line.behind c.in_ok-line.ensures.step c.in-Some.told (c.in-Some.ensures.some).0

pub reading-preserved-else-is_err : goal.reading-preserved-else-is_err
reading-preserved-else-is_err g c =
    let e : c.limits_of-limits.result.cycles ≡ length (turns c.args.script.now) = ap (λ (l : Limits). l.cycles) c.limits_of-limits.ensures.limits in
    let pushed : c.push.new.self.items ≡ c.reading.calls.items ++ c.in-Some-call_in.call ∷ [] = search rules in
    let next = goes-on c.args.script.now c.limits_of-limits.result c.reading.invariant.limits c.args.cycle c.requires.counted (omega (arith, e, c.requires.there)) c.args.lines.now.left c.reading.lines.left c.reading.place
    c.reading.number c.reading.calls.items c.reading.invariant.has c.reading.invariant.before c.reading.invariant.near c.step.new.lines.left c.in_ok-line.line c.in_ok-line.behind c.in_ok-line.ensures.step c.push.new.self.items
    (c.in_default.ensures.none refl) (pushed ∙ ap (λ (o : Option CallLine). c.reading.calls.items ++ cons_option o []) c.in-Some-call_in.ensures) in
    record {
      limits = c.reading.invariant.limits;
      few = c.reading.invariant.few;
      lawful = c.reading.invariant.lawful;
      has = next.0;
      before = next.1;
      near = next.2;
      kept = c.in_ok-line.ensures.kept ∙ c.reading.invariant.kept;
    }

pub reading-preserved : goal.reading-preserved
reading-preserved g c =
    let e : c.limits_of-limits.result.cycles ≡ length (turns c.args.script.now) = ap (λ (l : Limits). l.cycles) c.limits_of-limits.ensures.limits in
    let next = goes-on c.args.script.now c.limits_of-limits.result c.reading.invariant.limits c.args.cycle c.requires.counted (omega (arith, e, c.requires.there)) c.args.lines.now.left c.reading.lines.left c.reading.place
    c.reading.number c.reading.calls.items c.reading.invariant.has c.reading.invariant.before c.reading.invariant.near c.step.new.lines.left c.in_ok-line.line c.in_ok-line.behind c.in_ok-line.ensures.step c.reading.calls.items
    (c.in_default.ensures.none refl) (sym (append-nil c.reading.calls.items) ∙ ap (λ (o : Option CallLine). c.reading.calls.items ++ cons_option o []) c.in_default-call_in.ensures) in
    record {
      limits = c.reading.invariant.limits;
      few = c.reading.invariant.few;
      lawful = c.reading.invariant.lawful;
      has = next.0;
      before = next.1;
      near = next.2;
      kept = c.in_ok-line.ensures.kept ∙ c.reading.invariant.kept;
    }
