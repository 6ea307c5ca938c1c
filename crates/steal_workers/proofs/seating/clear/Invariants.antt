use Rattle.steal_workers.specs.Places.{Empties}
use Rattle.steal_workers.proofs.Changing.{ChangedUpTo}
use Rattle.steal_workers.proofs.seating.clear.Given as goal

abbrev pub invariant-loop-place : goal.invariant-loop-place
invariant-loop-place g l = ChangedUpTo (λ k. Empties) l.place-index l.fn.places l.places
