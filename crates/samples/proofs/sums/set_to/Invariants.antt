use Rattle.std.proofs.Common.{◌≡◌, take}
use Rattle.samples.proofs.sums.set_to.Given as goal

abbrev pub invariant-loop-i : goal.invariant-loop-i
invariant-loop-i l = take l.i l.sum ≡ take l.i l.part
