use Rattle.std.proofs.Common.{◌≡◌, ℕ, ◌<◌, get_or}
use Rattle.bench_crew.proofs.sources.clear_counts.Given as goal

abbrev pub invariant-loop-count : goal.invariant-loop-count
invariant-loop-count l = (n : ℕ) → n < l.count-index → get_or l.counts n 0 ≡ 0
