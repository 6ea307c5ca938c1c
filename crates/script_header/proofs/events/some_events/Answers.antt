use Rattle.std.proofs.Common.{◌≡◌, ◌<◌, [], ◌∷◌, ◌++◌, length, arith, ◌∙◌}
use Rattle.std.proofs.lemmas.Grind.{common_steps}
use Rattle.script_header.proofs.EventLemmas.{event-added, event-faulty}
use Rattle.script_header.proofs.events.some_events.Goals as goal

pub lines-preserved : goal.lines-preserved
lines-preserved c =
    let i = c.lines.invariant in
    let few : length c.lines.found.items < 4096 = grind (arith, common_steps, c.len.ensures, c.if-len-ge-MOST_EVENTS.false) in
    let pushed : c.push.new.self.items ≡ c.lines.found.items ++ c.in-Ok.item ∷ [] = c.in-Ok-push.ensures.items in
    let s = event-added c.lines.last c.lines.found.items c.push.new.self.items c.args.lines.now.lines c.lines.lines.lines c.take_begun.new.self.lines (record { number = c.in-Some.line.number; words = c.in-Some.line.words }) c.in-Ok.item i.same i.last i.lists few (rw c.as_slice.ensures at c.in-Some.ensures.some) c.in-Ok.ensures.gives c.in-Ok.ensures.list pushed in
    record { same = s.0; few = s.1; last = s.2; lists = s.3; end = c.in-Some.ensures.end ∙ i.end }

pub returns-in-Err-clause-gives : goal.returns-in-Err-clause-gives
returns-in-Err-clause-gives c = λ not.
    event-faulty c.lines.last c.lines.found.items c.args.lines.now.lines c.lines.lines.lines c.take_begun.new.self.lines (record { number = c.in-Some.line.number; words = c.in-Some.line.words }) c.in-Err.fault c.lines.invariant.same c.lines.invariant.last (rw c.as_slice.ensures at c.in-Some.ensures.some) c.in-Err.ensures.gives
