use Rattle.port_registry.proofs.OpeningLemmas.{AreBelow}
use Rattle.port_registry.proofs.opening.free_ids.Given as goal

abbrev pub invariant-loop-id : goal.invariant-loop-id
invariant-loop-id l = AreBelow l.free.items l.id
