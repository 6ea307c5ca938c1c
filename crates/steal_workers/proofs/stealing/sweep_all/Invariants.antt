use Rattle.steal_workers.specs.Crews.{facts_of}
use Rattle.steal_workers.specs.Works.{Sweeps}
use Rattle.steal_workers.proofs.Changing.{ChangedUpTo}
use Rattle.steal_workers.proofs.stealing.sweep_all.Given as goal

abbrev pub invariant-loop-seat : goal.invariant-loop-seat
invariant-loop-seat g l = ChangedUpTo (λ k. Sweeps (facts_of l.crew)) l.seat-index l.fn.seats l.seats
