use Rattle.std.proofs.Common.{◌≡◌, length}
use Rattle.std.specs.List.{All}
use Rattle.record_ring.proofs.ends.spares.Given as goal

abbrev pub invariant-loop : goal.invariant-loop
invariant-loop l = record { as_many : length l.spares.items ≡ l.counter; roomy : All (λ b. b.samples.room ≡ l.samples) l.spares.items }
