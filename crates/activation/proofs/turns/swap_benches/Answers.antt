use Rattle.std.proofs.Common.{arith, ◌≡◌, ◌<◌, ℕ, [], length, set, Some, None, sym, ap, ◌∙◌, subst, refl, length-set}
use mathlib.Core.Option.{some}
use Rattle.table_lemmas.proofs.Readings.{inside}
use Rattle.activation.specs.declared.views.Item.TheVariants.{Bench}
use Rattle.activation.specs.Contents.{HasRoomFor}
use Rattle.activation.specs.Plays.{with_items}
use Rattle.activation.proofs.Turning.{one_swapped, found_tray, at_got}
use Rattle.activation.proofs.turns.swap_benches.Goals as goal

pub take_tray-tray-requires-clause-bench : goal.take_tray-tray-requires-clause-bench
take_tray-tray-requires-clause-bench g c κs within =
    let it = c.requires.laid c.loop-node.node c.loop-node-test.true in
    (it.0, c.loop-node.invariant.4 c.loop-node.node (omega arith) ∙ it.1)

pub put-requires-clause-slot : goal.put-requires-clause-slot
put-requires-clause-slot g c κs within =
    let items = c.loop-node.seat.me.0.shelf.items in
    let low = inside items c.loop-node.node _ c.take_tray-tray.ensures.tray in
    let test = c.loop-node-test.true in
    (omega (arith, test, c.requires.seat.2), omega (arith, low, ap (λ m. length m.0.shelf.items) c.take_tray-tray.ensures.seat.1, length-set items c.loop-node.node None))

pub loop-node-preserved : goal.loop-node-preserved
loop-node-preserved g c =
    let i = c.loop-node.invariant in
    let first = c.args.seat.now.me.0.shelf.items in
    let items = c.loop-node.seat.me.0.shelf.items in
    let k : ℕ = c.loop-node.node in
    let now = c.loop-node.benches in
    let took = c.take_tray-tray.ensures in
    let put = c.put.ensures.seat.1 in
    let tray = c.take_tray-tray.result in
    let low : k < length items = inside items k _ took.tray in
    let low' : k < length now = omega (arith, c.loop-node-test.true, i.3) in
    let it = c.requires.laid k c.loop-node-test.true in
    let same : it.0 ≡ tray = found_tray items k tray it.0 _ took.tray refl (i.4 k (omega arith) ∙ it.1) in
    let next_is : c.put.new.seat.me.0.shelf.items ≡ set (set items k None) k (Some (Bench record { bench = c.swap.new.x; given = tray.given })) =
    ap (λ m. m.0.shelf.items) put ∙ ap (λ l. set l k (Some (Bench record { bench = c.swap.new.x; given = tray.given }))) (ap (λ m. m.0.shelf.items) took.seat.1) in
    let one = one_swapped first items c.put.new.seat.me.0.shelf.items c.args.benches.now now (set now k c.swap.new.y) k _ tray record { bench = c.swap.new.x; given = tray.given } HasRoomFor next_is (ap (set now k) c.swap.ensures.y_after) took.tray refl low low'
    (at_got now k c.index-benches-node.result low' ∙ ap some (sym c.swap.ensures.x_after)) (subst HasRoomFor same it.2) i.4 i.5 i.6 i.7 in (
      c.put.ensures.seat.0 ∙ (took.seat.0 ∙ i.0),
      put
          ∙ ((λ j. (with_items (took.seat.1 j).0 (set c.take_tray-tray.new.seat.me.0.shelf.items k (Some (Bench record { bench = c.swap.new.x; given = tray.given }))), []))
          ∙ (λ j. (with_items (i.1 j).0 (sym (ap (λ m. m.0.shelf.items) put) j), []))),
      ap length next_is ∙ (length-set (set items k None) k _ ∙ (length-set items k None ∙ i.2)),
      length-set now k c.swap.new.y ∙ i.3,
      one.0,
      one.1,
      one.2,
      one.3,
    )

pub returns-clause-laid : goal.returns-clause-laid
returns-clause-laid g c =
    let i = c.loop-node.invariant in (
      (λ n bench e. let low = inside c.args.benches.now n bench e in let not = c.loop-node-test.false in i.6 n bench (omega (arith, low, not)) e),
      i.2,
    )

pub returns-clause-taken : goal.returns-clause-taken
returns-clause-taken g c n tray low at = let not = c.loop-node-test.false in c.loop-node.invariant.7 n tray (omega (arith, low, not)) at
