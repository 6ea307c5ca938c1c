use Rattle.std.proofs.Common.{◌≡◌, map, take}
use Rattle.session_script.proofs.lists.copies_of.Given as goal

abbrev pub invariant-loop-list : goal.invariant-loop-list
invariant-loop-list l = map (λ list. list.items) l.copies.items ≡ map (λ list. list.items) (take l.list-index l.lists)
