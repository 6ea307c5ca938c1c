use Rattle.std.proofs.Common.{◌≡◌, false, take}
use Rattle.std.specs.List.{list_any}
use Rattle.cycle_plan.specs.Layouts.{same_link}
use Rattle.cycle_plan.proofs.links.has_link.Given as goal

abbrev pub invariant-loop-other : goal.invariant-loop-other
invariant-loop-other l = list_any (same_link l.link) (take l.other-index l.links) ≡ false
