use Rattle.std.proofs.Common.{◌≡◌, map}
use Rattle.session_script.specs.Parts.{lists_below}
use Rattle.session_script.proofs.lists.lists_of.Given as goal

abbrev pub invariant-loop-list : goal.invariant-loop-list
invariant-loop-list l = map (λ list. list.items) l.lists.items ≡ lists_below l.list l.found
