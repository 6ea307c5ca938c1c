use Rattle.std.proofs.Common.{◌≡◌, take}
use Rattle.guests.specs.Turns.{heard}
use Rattle.guests.proofs.fail.copy_into.Given as goal

abbrev pub invariant-loop-i : goal.invariant-loop-i
invariant-loop-i l = take l.i l.part ≡ heard l.i l.x
