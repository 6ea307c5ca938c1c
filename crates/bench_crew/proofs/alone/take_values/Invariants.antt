use Rattle.std.proofs.Common.{◌≡◌, false, take, map, get_or, Some, vec_capacity, vec_len}
use Rattle.session_model.specs.Activation.{link_at, place_among}
use Rattle.bench_crew.specs.Turns.{IsApart, ShowRoom, AreLike}
use Rattle.bench_crew.proofs.alone.take_values.Given as goal

abbrev pub invariant-loop-position : goal.invariant-loop-position
invariant-loop-position g l =
    AreLike g.B.Work.memory g.B.Work.has_room g.B.Work.value_at (IsApart l.sources.links.items l.which 0 l.position-index) l.initial.benches l.benches
    × ShowRoom g.B.Work.has_room false l.sources.links.items l.which 0 l.position-index l.benches
    × ((d : g.row.B.Denot) → l.given.items ≡ map (λ k. Some (g.B.Work.value_at (get_or l.initial.benches (link_at l.sources.links.items k).from d) (place_among l.sources.links.items k))) (take l.position-index l.which))
    × (vec_len l.given ≡ l.position-index)
    × (vec_capacity l.given ≡ vec_capacity l.initial.given)
