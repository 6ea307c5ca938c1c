use Rattle.std.proofs.Common.{◌≡◌, [], vec_capacity}
use Rattle.bench_crew.specs.Turns.{AreInOrder}
use Rattle.bench_crew.proofs.alone.play_in_order.Given as goal

abbrev pub invariant-loop-node : goal.invariant-loop-node
invariant-loop-node g l =
    AreInOrder g.B.Work.memory g.B.Work.has_room g.B.Work.value_at g.B.Work.after g.B.Work.gives l.sources.links.items l.node l.initial.benches l.benches
    × (l.given.items ≡ [])
    × (vec_capacity l.given ≡ vec_capacity l.initial.given)
