use Rattle.std.proofs.Common.{◌≡◌, ◌≤◌, ◌<◌, ℕ, length, vec_capacity}
use mathlib.Core.Option.{some}
use lib.ListN.{get_elem?}
use Rattle.activation.specs.declared.views.Tray.{Tray}
use Rattle.activation.specs.Seats.{IsSole}
use Rattle.activation.specs.Returns.{BenchAt}
use Rattle.activation.proofs.turns.take_benches.Given as goal

abbrev pub invariant-loop-node : goal.invariant-loop-node
invariant-loop-node g l =
    (l.seat.table_id ≡ l.fn.seat.table_id)
    × IsSole l.seat.me
    × (length l.benches.items ≡ l.node)
    × (l.nodes ≤ vec_capacity l.benches)
    × ((k : ℕ) → l.node ≤ k → get_elem? l.seat.me.0.shelf.items k ≡ get_elem? l.fn.seat.me.0.shelf.items k)
    × ((n : ℕ) (tray : Tray g.row.B.Denot g.row.B-Value.Denot) → n < l.node → BenchAt l.fn.seat.me.0.shelf.items n tray → get_elem? l.benches.items n ≡ some tray.bench)
