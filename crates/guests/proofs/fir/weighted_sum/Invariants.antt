use Rattle.std.proofs.Common.{◌≡◌, ◌*◌, ◌++◌}
use Rattle.guests.specs.Turns.{IsWithin, weighted}
use Rattle.guests.proofs.fir.weighted_sum.Given as goal

abbrev pub invariant-loop-i : goal.invariant-loop-i
invariant-loop-i l = record {
  so_far : l.sum ≡ weighted l.taps (l.past ++ l.x) l.fn.at l.i;
  within : IsWithin (70368744177664 * l.i) l.sum;
}
