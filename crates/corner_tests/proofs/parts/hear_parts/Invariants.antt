use Rattle.std.proofs.Common.{◌≡◌, ◌≤◌, length}
use Rattle.corner_tests.proofs.parts.hear_parts.Given as goal

abbrev pub invariant-loop-samples : goal.invariant-loop-samples
invariant-loop-samples l = (length l.bench.kept.wires ≤ l.samples-index) × (l.bench.kept.standing ≡ l.fn.bench.kept.standing) × (l.bench.kept.routes ≡ l.fn.bench.kept.routes)
