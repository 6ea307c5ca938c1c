use Rattle.std.proofs.Common.{◌≡◌, ◌≤◌, count_by, take}
use Rattle.call_checks.specs.Kept.{is_below}
use Rattle.call_checks.proofs.checks.count_below.Given as goal

abbrev pub invariant-loop-place : goal.invariant-loop-place
invariant-loop-place l = (l.count ≡ count_by (is_below l.stage) (take l.place l.calls)) × (l.count ≤ l.place)
