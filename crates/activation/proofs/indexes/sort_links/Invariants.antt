use Rattle.std.proofs.Common.{◌≡◌, map, vec_capacity, vec_len}
use Rattle.session_laws.specs.session_model.specs.Activation.{link_at, place_among}
use Rattle.session_laws.specs.session_model.specs.Samples.{below}
use Rattle.activation.specs.Indexes.{IsIndex}
use Rattle.activation.proofs.indexes.sort_links.Given as goal

abbrev pub invariant-loop-position : goal.invariant-loop-position
invariant-loop-position l =
    (vec_len l.into ≡ vec_len l.initial.into)
    × (vec_len l.out ≡ vec_len l.initial.out)
    × IsIndex (λ k. (link_at l.links k).to) l.position l.into.items
    × IsIndex (λ k. (link_at l.links k).from) l.position l.out.items
    × (l.places.items ≡ map (place_among l.links) (below l.position))
    × (vec_len l.places ≡ l.position)
    × (vec_capacity l.places ≡ vec_capacity l.initial.places)
