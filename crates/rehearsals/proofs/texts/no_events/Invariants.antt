use Rattle.std.proofs.Common.{◌≡◌, [], map}
use Rattle.session_model.specs.Samples.{below}
use Rattle.rehearsals.proofs.texts.no_events.Given as goal

-- so many empty lists
abbrev pub invariant-loop-list : goal.invariant-loop-list
invariant-loop-list l = map (λ list. list.items) l.lists.items ≡ map (λ n. []) (below l._list)
