use Rattle.std.proofs.Common.{◌<◌, ◌≤◌, length}
use Rattle.report_lines.proofs.PutLemmas.{all_put, item_cut, same-at}
use Rattle.session_ends.proofs.MeterLemmas.{logged_text, text-logged}
use Rattle.session_ends.proofs.reporting.put_log.Goals as goal

pub returns-in_err-put_event-clause-puts : goal.returns-in_err-put_event-clause-puts
returns-in_err-put_event-clause-puts g c =
    let within : c.loop-logged.logged-index < length c.args.log.now = search in
    item_cut (logged_text c.args.client.now) c.args.log.now c.loop-logged.logged-index _ _ c.put_event.result c.from_residual.result _ _ _ within (same-at c.args.log.now c.loop-logged.logged-index _ _ within) (text-logged c.args.client.now c.args.log.now)
    c.loop-logged.invariant.gained c.put_event.ensures.puts _ c.in_err-put_event.was c.from_residual.ensures.0

pub returns-clause-puts : goal.returns-clause-puts
returns-clause-puts g c =
    let past : length c.args.log.now ≤ c.loop-logged.logged-index = search in
    all_put (logged_text c.args.client.now) c.args.log.now c.loop-logged.logged-index _ _ _ past (text-logged c.args.client.now c.args.log.now) c.loop-logged.invariant.gained
