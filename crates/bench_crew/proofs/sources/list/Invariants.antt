use Rattle.std.proofs.Common.{◌≡◌, length, map, vec_capacity, vec_len}
use Rattle.session_model.specs.Activation.{place_among}
use Rattle.session_model.specs.Samples.{below}
use Rattle.bench_crew.specs.Listings.{AreListed, AreCounted}
use Rattle.bench_crew.proofs.sources.list.Given as goal

abbrev pub invariant-loop-position : goal.invariant-loop-position
invariant-loop-position l =
    (vec_len l.into ≡ vec_len l.initial.into)
    × (length l.counts ≡ length l.initial.counts)
    × AreListed l.links l.position l.into.items
    × AreCounted l.links l.position l.counts
    × (l.places.items ≡ map (place_among l.links) (below l.position))
    × (vec_len l.places ≡ l.position)
    × (vec_capacity l.places ≡ vec_capacity l.initial.places)
