use Rattle.std.proofs.Common.{◌-◌, length}
use Rattle.steal_workers.specs.Tallies.{HasAll}
use Rattle.steal_workers.specs.Deques.{tally_of, SameDeque}
use Rattle.steal_workers.proofs.ends.Deque.clear.Given as goal

abbrev pub invariant-loop : goal.invariant-loop
invariant-loop l = SameDeque l.fn.self l.self × HasAll (tally_of l.self)

abbrev pub decreases-loop : goal.decreases-loop
decreases-loop l = length (tally_of l.self).pushed - length (tally_of l.self).taken
