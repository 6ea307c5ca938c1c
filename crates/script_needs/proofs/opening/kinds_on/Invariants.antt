use Rattle.std.proofs.Common.{◌≡◌, filter_map, take}
use Rattle.script_needs.specs.Lines.{kind_on}
use Rattle.script_needs.proofs.opening.kinds_on.Given as goal

abbrev pub invariant-loop-line : goal.invariant-loop-line
invariant-loop-line l = l.kinds.items ≡ filter_map kind_on (take l.line-index l.lines)
