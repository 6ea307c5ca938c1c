use Rattle.std.proofs.Common.{◌≡◌, ◌<◌, ◌≤◌, length, get_or}
use Rattle.session_works.specs.Drivers.{driver_of}
use Rattle.report_lines.proofs.PutLemmas.{all_put, item_cut}
use Rattle.session_ends.proofs.MeterLemmas.{event_text, text-events}
use Rattle.session_ends.proofs.reporting.put_events.Goals as goal

pub returns-in_err-put_event_of-clause-puts : goal.returns-in_err-put_event_of-clause-puts
returns-in_err-put_event_of-clause-puts g c =
    let within : c.loop-entry.entry-index < length c.args.history.now = search in
    let at : c.entry-item.result ≡ get_or c.args.history.now c.loop-entry.entry-index c.entry-item.result = search in
    item_cut (event_text (driver_of g.G.Guest.sound c.args.driver.now)) c.args.history.now c.loop-entry.entry-index c.entry-item.result _ c.put_event_of.result c.from_residual.result _ _ _ within at (text-events (driver_of g.G.Guest.sound c.args.driver.now) c.args.history.now)
    c.loop-entry.invariant.gained c.put_event_of.ensures.puts _ c.in_err-put_event_of.was c.from_residual.ensures.0

pub returns-clause-puts : goal.returns-clause-puts
returns-clause-puts g c =
    let past : length c.args.history.now ≤ c.loop-entry.entry-index = search in
    all_put (event_text (driver_of g.G.Guest.sound c.args.driver.now)) c.args.history.now c.loop-entry.entry-index _ _ _ past (text-events (driver_of g.G.Guest.sound c.args.driver.now) c.args.history.now) c.loop-entry.invariant.gained
