use Rattle.steal_workers.specs.Deques.{IsPassFor}
use Rattle.steal_workers.proofs.ends.Stealer.steal.Given as goal

abbrev pub invariant-loop : goal.invariant-loop
invariant-loop l = IsPassFor l.self l.pass
