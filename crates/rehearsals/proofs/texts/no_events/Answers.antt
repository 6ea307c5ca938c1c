use Rattle.std.proofs.Common.{◌≤◌, ◌∙◌, map, ap}
use Rattle.session_model.specs.Samples.{below}
use Rattle.rehearsals.proofs.EventLemmas.{lists_all, lists_more, lists_small}
use Rattle.rehearsals.proofs.texts.no_events.Goals as goal

pub loop-list-preserved : goal.loop-list-preserved
loop-list-preserved c =
    ap (map (λ list. list.items)) c.in_ok-push.ensures.items ∙ lists_more (λ list. list.items) c.loop-list.lists.items c.new.result c.loop-list._list c.loop-list.invariant c.new.ensures.items

pub returns-clause-lists : goal.returns-clause-lists
returns-clause-lists c = c.loop-list.invariant ∙ lists_all c.loop-list._list c.loop-list-test.false c.loop-list.auto._list-end

pub returns-clause-sizes : goal.returns-clause-sizes
returns-clause-sizes c = lists_small (λ item. item.1.size ≤ 16) (λ list. list.items) c.loop-list.lists.items (below c.loop-list._list) c.loop-list.invariant
