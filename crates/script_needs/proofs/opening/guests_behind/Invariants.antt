use Rattle.std.proofs.Common.{◌≡◌, fold, take}
use Rattle.script_needs.specs.Lines.{more_guests}
use Rattle.script_needs.proofs.opening.guests_behind.Given as goal

abbrev pub invariant-loop-line : goal.invariant-loop-line
invariant-loop-line l = l.needed ≡ fold more_guests 0 (take l.line-index l.lines)
