use Rattle.std.proofs.Common.{◌<◌, ◌≤◌, ◌∙◌, length, arith}
use Rattle.session_model.specs.Reports.{cycle_line}
use Rattle.report_lines.specs.Outputs.{cycles_of}
use Rattle.report_lines.proofs.GatherLemmas.{item_gathered, waiting_cut, waiting_put}
use Rattle.report_lines.proofs.PutLemmas.{cycles-at, length-cycles, text-map}
use Rattle.report_lines.proofs.cycles.put_cycles.Goals as goal

pub returns-in_err-gather-clause-puts : goal.returns-in_err-gather-clause-puts
returns-in_err-gather-clause-puts g c =
    waiting_cut cycle_line (cycles_of c.args.numbers.now c.args.moments.now) c.loop-i.i _ _ c.gather.result c.from_residual.result _ _ _
    (text-map cycle_line (cycles_of c.args.numbers.now c.args.moments.now)) c.loop-i.invariant.gathered c.gather.ensures.err _ c.in_err-gather.was c.from_residual.ensures.0

pub loop-i-preserved : goal.loop-i-preserved
loop-i-preserved g c =
    let a : c.loop-i.i < length c.args.numbers.now = omega (arith, c.loop-i-test.true, c.min-i-end.ensures) in
    let b : c.loop-i.i < length c.args.moments.now = omega (arith, c.loop-i-test.true, c.min-i-end.ensures) in
    let within : c.loop-i.i < length (cycles_of c.args.numbers.now c.args.moments.now) = omega (arith, a, b, length-cycles c.args.numbers.now c.args.moments.now) in
    record {
      gathered = item_gathered cycle_line (cycles_of c.args.numbers.now c.args.moments.now) c.loop-i.i _ _ _ _ _ _ _ within (cycles-at c.args.numbers.now c.args.moments.now c.loop-i.i _ _ a b) c.line_of.ensures c.loop-i.invariant.gathered c.in_ok-gather.ensures.ok;
      kept = (rw c.in_ok-gather.was at c.gather.ensures.cause.kept) ∙ c.loop-i.invariant.kept;
    }

pub returns-clause-puts : goal.returns-clause-puts
returns-clause-puts g c =
    let past : length (cycles_of c.args.numbers.now c.args.moments.now) ≤ c.loop-i.i = omega (arith, c.loop-i-test.false, c.min-i-end.ensures, length-cycles c.args.numbers.now c.args.moments.now) in
    waiting_put cycle_line (cycles_of c.args.numbers.now c.args.moments.now) c.loop-i.i _ _ _ c.put.result _ _ _ past (text-map cycle_line (cycles_of c.args.numbers.now c.args.moments.now)) c.loop-i.invariant.gathered
    (c.as_bytes.ensures.value ∙ c.as_str.ensures.value) c.put.ensures.bytes
