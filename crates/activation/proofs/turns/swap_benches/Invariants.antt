use Rattle.std.proofs.Common.{◌≡◌, ◌≤◌, ◌<◌, ℕ, [], length}
use mathlib.Core.Option.{some}
use lib.ListN.{get_elem?}
use Rattle.activation.specs.declared.views.Tray.{Tray}
use Rattle.activation.specs.Contents.{HasRoomFor}
use Rattle.activation.specs.Plays.{with_items}
use Rattle.activation.specs.Returns.{BenchAt}
use Rattle.activation.proofs.turns.swap_benches.Given as goal

abbrev pub invariant-loop-node : goal.invariant-loop-node
invariant-loop-node g l =
    (l.seat.table_id ≡ l.fn.seat.table_id)
    × (l.seat.me ≡ (with_items l.fn.seat.me.0 l.seat.me.0.shelf.items, []))
    × (length l.seat.me.0.shelf.items ≡ length l.fn.seat.me.0.shelf.items)
    × (length l.benches ≡ length l.fn.benches)
    × ((k : ℕ) → l.node ≤ k → get_elem? l.seat.me.0.shelf.items k ≡ get_elem? l.fn.seat.me.0.shelf.items k)
    × ((k : ℕ) → l.node ≤ k → get_elem? l.benches k ≡ get_elem? l.fn.benches k)
    × ((n : ℕ) (bench : g.row.B.Denot) → n < l.node → get_elem? l.fn.benches n ≡ some bench → (tray : Tray g.row.B.Denot g.row.B-Value.Denot) × BenchAt l.seat.me.0.shelf.items n tray × (tray.bench ≡ bench) × HasRoomFor tray)
    × ((n : ℕ) (tray : Tray g.row.B.Denot g.row.B-Value.Denot) → n < l.node → BenchAt l.fn.seat.me.0.shelf.items n tray → get_elem? l.benches n ≡ some tray.bench)
