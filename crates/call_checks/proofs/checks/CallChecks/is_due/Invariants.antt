use Rattle.std.proofs.Common.{◌<◌, ℕ}
use Rattle.call_checks.specs.Kept.{HasEarlier}
use Rattle.call_checks.proofs.checks.CallChecks.is_due.Given as goal

abbrev pub invariant-loop-lane : goal.invariant-loop-lane
invariant-loop-lane l = (lane : ℕ) → lane < l.lane → HasEarlier l.self.script l.self.history l.stage lane → ⊥
