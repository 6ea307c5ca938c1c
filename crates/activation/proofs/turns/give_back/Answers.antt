use Rattle.std.proofs.Common.{arith, ◌≡◌, ◌<◌, ℕ, [], length, get_or, sym, ap, ◌∙◌, refl}
use Rattle.session_laws.specs.session_model.specs.Activation.{link_at, no_link, place_among}
use Rattle.session_laws.proofs.ActivationLemmas.{length-map_below}
use Rattle.activation.specs.Plays.{with_items}
use Rattle.activation.proofs.Places.{low_place}
use Rattle.activation.proofs.Played.{at_listed}
use Rattle.activation.proofs.Turning.{none_back, all_back, one_back}
use Rattle.activation.proofs.turns.give_back.Goals as goal

pub loop-link-init : goal.loop-link-init
loop-link-init g c =
    let sole = c.requires.seat.1 in (
      refl,
      (λ i. (record c.args.seat.now.me.0 { shelf = record c.args.seat.now.me.0.shelf { out = sole.none_out i } }, sole.clear i)),
      refl,
      none_back g.B.Work.memory g.B.Work.has_room c.args.links.now c.args.nodes c.args.seat.now.me.0.shelf.items c.requires.spent,
    )

pub return_value-requires-clause-seat : goal.return_value-requires-clause-seat
return_value-requires-clause-seat g c κs within =
    let links = c.args.links.now in
    let k : ℕ = c.loop-link.link in
    let i = c.loop-link.invariant in
    let test = c.loop-link-test.true in
    let low : k < length links = omega (arith, test, ap length c.requires.index.1, length-map_below (place_among links) (length links)) in
    let up = c.requires.index.0.upward k no_link low in
    let within' = c.requires.index.0.within k no_link low in
    let sole = c.requires.seat.1 in (
      i.0 ∙ c.requires.seat.0,
      record { live = ap (λ m. m.0.is_live) i.1 ∙ sole.live; on = ap (λ m. m.0.is_still) i.1 ∙ sole.on; none_out = ap (λ m. m.0.shelf.out) i.1; clear = ap (λ m. m.1) i.1 },
      omega (arith, low, c.requires.seat.2),
      omega (arith, up, within'),
      omega (arith, at_listed c.args.places.now (place_among links) (length links) k 0 c.requires.index.1 low, low_place c.args.nodes links k c.requires.index.0 low, c.requires.index.3),
    )

pub return_value-requires-clause-value : goal.return_value-requires-clause-value
return_value-requires-clause-value g c κs within =
    let test = c.loop-link-test.true in
    let low : c.loop-link.link < length c.args.links.now = omega (arith, test, ap length c.requires.index.1, length-map_below (place_among c.args.links.now) (length c.args.links.now)) in
    c.loop-link.invariant.3.1 c.loop-link.link (omega arith) low

pub return_value-requires-clause-bench : goal.return_value-requires-clause-bench
return_value-requires-clause-bench g c κs within =
    let links = c.args.links.now in
    let k : ℕ = c.loop-link.link in
    let test = c.loop-link-test.true in
    let low : k < length links = omega (arith, test, ap length c.requires.index.1, length-map_below (place_among links) (length links)) in
    let up = c.requires.index.0.upward k no_link low in
    let within' = c.requires.index.0.within k no_link low in
    let old = c.requires.spent.benches (link_at links k).from (omega (arith, up, within')) in
    let it = c.loop-link.invariant.3.0 (link_at links k).from old.0 (omega (arith, up, within')) old.1 in
    (it.0, it.1, ap (g.B.Work.has_room it.0.bench) (at_listed c.args.places.now (place_among links) (length links) k 0 c.requires.index.1 low) ∙ it.2.rest k (omega arith) low refl)

pub loop-link-preserved : goal.loop-link-preserved
loop-link-preserved g c =
    let links = c.args.links.now in
    let k : ℕ = c.loop-link.link in
    let i = c.loop-link.invariant in
    let test = c.loop-link-test.true in
    let low : k < length links = omega (arith, test, ap length c.requires.index.1, length-map_below (place_among links) (length links)) in
    let up = c.requires.index.0.upward k no_link low in
    let within = c.requires.index.0.within k no_link low in
    let n : ℕ = (link_at links k).from in
    let inside : n < c.args.nodes = omega (arith, up, within) in
    let old = c.requires.spent.benches n inside in
    let it = i.3.0 n old.0 inside old.1 in
    let did = c.return_value.ensures in
    let now = did.bench it.0 it.1 in
    let place : get_or c.args.places.now k 0 ≡ place_among links k = at_listed c.args.places.now (place_among links) (length links) k 0 c.requires.index.1 low in (
      did.seat.0 ∙ i.0,
      did.seat.1 ∙ (λ j. (with_items (i.1 j).0 c.return_value.new.seat.me.0.shelf.items, [])),
      did.size ∙ i.2,
      one_back g.B.Work.memory g.B.Work.has_room links c.args.nodes c.args.seat.now.me.0.shelf.items c.loop-link.seat.me.0.shelf.items c.return_value.new.seat.me.0.shelf.items k low inside it.0 now.0 it.1 now.1 now.2
          (ap (g.B.Work.has_room now.0) (sym place) ∙ now.3) (λ other ne. now.4 other (λ e. ne (e ∙ place))) did.others i.3,
    )

pub returns-clause-back : goal.returns-clause-back
returns-clause-back g c =
    let not = c.loop-link-test.false in
    all_back g.B.Work.memory g.B.Work.has_room c.args.links.now c.args.nodes c.args.seat.now.me.0.shelf.items c.loop-link.seat.me.0.shelf.items c.loop-link.link (omega (arith, not, ap length c.requires.index.1, length-map_below (place_among c.args.links.now) (length c.args.links.now))) c.loop-link.invariant.3

pub bounds-links-link : goal.bounds-links-link
bounds-links-link g c = let test = c.loop-link-test.true in omega (arith, test, ap length c.requires.index.1, length-map_below (place_among c.args.links.now) (length c.args.links.now))

pub overflow_add-nodes : goal.overflow_add-nodes
overflow_add-nodes g c =
    let test = c.loop-link-test.true in
    let low : c.loop-link.link < length c.args.links.now = omega (arith, test, ap length c.requires.index.1, length-map_below (place_among c.args.links.now) (length c.args.links.now)) in
    omega (arith, low, c.requires.index.2, c.requires.index.3)
