use Rattle.steal_workers.specs.Crews.{facts_of}
use Rattle.steal_workers.specs.Works.{IsUnderWay}
use Rattle.steal_workers.proofs.Changing.{ChangedUpTo}
use Rattle.steal_workers.proofs.stealing.start_all.Given as goal

abbrev pub invariant-loop-place : goal.invariant-loop-place
invariant-loop-place g l = ChangedUpTo (λ k. IsUnderWay (facts_of l.crew) l.stealers) l.place-index l.fn.places l.places
