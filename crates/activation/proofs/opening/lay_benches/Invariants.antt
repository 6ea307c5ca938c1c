use Rattle.std.proofs.Common.{◌≡◌, ◌≤◌, ◌<◌, ℕ, [], length, Some, vec_capacity, vec_len}
use mathlib.Core.Option.{some}
use lib.ListN.{get_elem?}
use Rattle.activation.specs.declared.views.Tray.{Tray}
use Rattle.activation.specs.declared.views.Item.TheVariants.{Bench}
use Rattle.activation.specs.Contents.{HasRoomFor, AreEmpty}
use Rattle.activation.specs.Plays.{with_items}
use Rattle.activation.proofs.opening.lay_benches.Given as goal

abbrev pub invariant-loop-bench : goal.invariant-loop-bench
invariant-loop-bench g l =
    (l.seat.table_id ≡ l.initial.seat.table_id)
    × (l.seat.me ≡ (with_items l.initial.seat.me.0 l.seat.me.0.shelf.items, []))
    × (length l.seat.me.0.shelf.items ≡ length l.initial.seat.me.0.shelf.items)
    × (length l.benches.items ≤ length l.initial.benches.items)
    × ((n : ℕ) (bench : g.row.B.Denot) → n < length l.benches.items → get_elem? l.initial.benches.items n ≡ some bench → get_elem? l.benches.items n ≡ some bench)
    × ((n : ℕ) (bench : g.row.B.Denot) → length l.benches.items ≤ n → get_elem? l.initial.benches.items n ≡ some bench
    → (tray : Tray g.row.B.Denot g.row.B-Value.Denot) × (get_elem? l.seat.me.0.shelf.items n ≡ some (Some (Bench tray))) × (tray.bench ≡ bench) × HasRoomFor tray)
    × ((slot : ℕ) → length l.initial.benches.items ≤ slot → get_elem? l.seat.me.0.shelf.items slot ≡ get_elem? l.initial.seat.me.0.shelf.items slot)
    × (length l.rooms.items ≡ length l.benches.items)
    × AreEmpty l.rooms.items
    × (vec_capacity l.benches ≡ vec_capacity l.initial.benches)

abbrev pub decreases-loop-bench : goal.decreases-loop-bench
decreases-loop-bench g l = vec_len l.benches
