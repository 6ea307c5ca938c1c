use Rattle.std.proofs.Common.{◌≡◌, ◌≤◌}
use Rattle.client_tasks.specs.Steps.{count_out}
use Rattle.client_tasks.proofs.turns.count_from.Given as goal

abbrev pub invariant-loop-place : goal.invariant-loop-place
invariant-loop-place l = record {
  so_far : l.count ≡ count_out l.links l.node l.place;
  few : l.count ≤ l.place;
}
