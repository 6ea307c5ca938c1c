use Rattle.std.proofs.Common.{◌≡◌, ◌++◌, map, take}
use Rattle.guests.specs.Sounds.{filtered_at}
use Rattle.session_model.specs.Samples.{below}
use Rattle.guests.proofs.fir.filter_into.Given as goal

abbrev pub invariant-loop-frame : goal.invariant-loop-frame
invariant-loop-frame l = take l.frame l.part ≡ map (filtered_at l.taps l.shift (l.past ++ l.x)) (below l.frame)
