use Rattle.std.proofs.Common.{◌≡◌, fold, take}
use Rattle.script_needs.specs.Lines.{first_periods, past}
use Rattle.script_needs.proofs.lengths.longest_on.Given as goal

abbrev pub invariant-loop-line : goal.invariant-loop-line
invariant-loop-line l = l.periods ≡ fold past (first_periods l.period) (take l.line-index l.lines)
