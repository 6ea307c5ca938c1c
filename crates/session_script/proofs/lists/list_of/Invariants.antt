use Rattle.std.proofs.Common.{◌≡◌, take}
use Rattle.session_script.specs.Parts.{list_of}
use Rattle.session_script.proofs.lists.list_of.Given as goal

abbrev pub invariant-loop-item : goal.invariant-loop-item
invariant-loop-item l = l.events.items ≡ list_of l.list (take l.item-index l.found)
