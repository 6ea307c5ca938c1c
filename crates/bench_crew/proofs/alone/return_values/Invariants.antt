use Rattle.std.proofs.Common.{◌≡◌, ◌≤◌, true, length, All, IsSome, vec_capacity, vec_len}
use Rattle.bench_crew.specs.Turns.{IsApart, ShowRoom, AreLike}
use Rattle.bench_crew.proofs.alone.return_values.Given as goal

abbrev pub invariant-loop-taken : goal.invariant-loop-taken
invariant-loop-taken g l =
    AreLike g.B.Work.memory g.B.Work.has_room g.B.Work.value_at (IsApart l.sources.links.items l.which (vec_len l.given) (length l.which)) l.initial.benches l.benches
    × ShowRoom g.B.Work.has_room true l.sources.links.items l.which (vec_len l.given) (length l.which) l.benches
    × All (λ value. IsSome value) l.given.items
    × (vec_len l.given ≤ length l.which)
    × (vec_capacity l.given ≡ vec_capacity l.initial.given)

abbrev pub decreases-loop-taken : goal.decreases-loop-taken
decreases-loop-taken g l = vec_len l.given
