use Rattle.std.proofs.Common.{◌≡◌, take, vec_capacity, vec_len}
use Rattle.bench_crew.proofs.sources.keep.Given as goal

abbrev pub invariant-loop-link : goal.invariant-loop-link
invariant-loop-link l = (l.kept.items ≡ take l.link-index l.links) × (vec_len l.kept ≡ l.link-index) × (vec_capacity l.kept ≡ vec_capacity l.initial.kept)
