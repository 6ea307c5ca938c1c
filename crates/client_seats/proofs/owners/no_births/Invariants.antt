use Rattle.std.proofs.Common.{◌≡◌, None, replicate, ◌≤◌}
use Rattle.std.specs.Vec.{vec_capacity}
use Rattle.client_seats.proofs.owners.no_births.Given as goal

abbrev pub invariant-loop : goal.invariant-loop
invariant-loop l = (l.births.items ≡ replicate l.counter None) × (l.benches ≤ vec_capacity l.births)
