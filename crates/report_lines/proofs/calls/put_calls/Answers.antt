use Rattle.std.proofs.Common.{◌≡◌, ◌<◌, ◌≤◌, ◌∙◌, length, get_or}
use Rattle.jack_types.specs.declared.replies.Entry.{Entry}
use Rattle.session_model.specs.Reports.{call_line, printed_call}
use Rattle.report_lines.proofs.GatherLemmas.{item_gathered, waiting_cut, waiting_put}
use Rattle.report_lines.proofs.PutLemmas.{text-mapped}
use Rattle.report_lines.proofs.calls.put_calls.Goals as goal

pub returns-in_err-gather-clause-puts : goal.returns-in_err-gather-clause-puts
returns-in_err-gather-clause-puts g c =
    waiting_cut (λ (entry : Entry). call_line (printed_call entry)) c.args.history.now c.loop-entry.entry-index _ _ c.gather.result c.from_residual.result _ _ _
    (text-mapped call_line printed_call c.args.history.now) c.loop-entry.invariant.gathered c.gather.ensures.err _ c.in_err-gather.was c.from_residual.ensures.0

pub loop-entry-preserved : goal.loop-entry-preserved
loop-entry-preserved g c =
    let within : c.loop-entry.entry-index < length c.args.history.now = search in
    let at : c.entry-item.result ≡ get_or c.args.history.now c.loop-entry.entry-index c.entry-item.result = search in
    record {
      gathered = item_gathered (λ (entry : Entry). call_line (printed_call entry)) c.args.history.now c.loop-entry.entry-index c.entry-item.result _ _ _ _ _ _ within at c.line_of.ensures c.loop-entry.invariant.gathered c.in_ok-gather.ensures.ok;
      kept = (rw c.in_ok-gather.was at c.gather.ensures.cause.kept) ∙ c.loop-entry.invariant.kept;
    }

pub returns-clause-puts : goal.returns-clause-puts
returns-clause-puts g c =
    let past : length c.args.history.now ≤ c.loop-entry.entry-index = search in
    waiting_put (λ (entry : Entry). call_line (printed_call entry)) c.args.history.now c.loop-entry.entry-index _ _ _ c.put.result _ _ _ past (text-mapped call_line printed_call c.args.history.now) c.loop-entry.invariant.gathered
    (c.as_bytes.ensures.value ∙ c.as_str.ensures.value) c.put.ensures.bytes
