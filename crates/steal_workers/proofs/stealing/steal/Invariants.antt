use Rattle.std.proofs.Common.{◌≡◌, vec_capacity}
use Rattle.steal_workers.specs.Deques.{IsPassFor}
use Rattle.steal_workers.specs.Places.{Paired}
use Rattle.steal_workers.proofs.stealing.steal.Given as goal

abbrev pub invariant-loop-step : goal.invariant-loop-step
invariant-loop-step l = Paired IsPassFor l.stealers l.passes.items × (vec_capacity l.passes ≡ vec_capacity l.fn.passes)
