use Rattle.std.proofs.Common.{rules, arith, ◌≡◌, [], length, set, Some, sym, ap, ◌∙◌, refl, length-set}
use Rattle.activation.specs.declared.views.Item.TheVariants.{Bench}
use Rattle.activation.specs.Plays.{with_items}
use Rattle.table_lemmas.proofs.Readings.{inside}
use Rattle.activation.proofs.Begun.{lays_one}
use Rattle.activation.proofs.opening.lay_benches.Goals as goal

pub loop-bench-init : goal.loop-bench-init
loop-bench-init g c =
    let sole = c.requires.seat.1 in (
      refl,
      (λ i. (record c.args.seat.now.me.0 { shelf = record c.args.seat.now.me.0.shelf { out = sole.none_out i } }, sole.clear i)),
      refl,
      omega arith,
      (λ n bench low e. e),
      (λ n bench high e. absurd (let low = inside c.args.benches.now.items n bench e in omega (arith, low, high))),
      (λ slot high. refl),
      c.requires.rooms.0,
      c.requires.rooms.1,
      refl,
    )

pub loop-bench-preserved-in-Some-pop : goal.loop-bench-preserved-in-Some-pop
loop-bench-preserved-in-Some-pop g c =
    let i = c.loop-bench.invariant in
    let same : c.len.result ≡ length c.pop.new.self.items = search rules in
    let items : c.put.new.seat.me.0.shelf.items ≡ set c.loop-bench.seat.me.0.shelf.items (length c.pop.new.self.items) (Some (Bench record { bench = c.in-Some.bench; given = c.in-Some-pop.given })) =
    ap (λ m. m.0.shelf.items) c.put.ensures.seat.1 ∙ ap (λ k. set c.loop-bench.seat.me.0.shelf.items k (Some (Bench record { bench = c.in-Some.bench; given = c.in-Some-pop.given }))) same in
    let one = lays_one c.args.benches.now.items c.loop-bench.benches.items c.pop.new.self.items c.in-Some.bench c.loop-bench.seat.me.0.shelf.items c.put.new.seat.me.0.shelf.items c.loop-bench.rooms.items c.pop-in-Some.new.self.items c.in-Some-pop.given
    c.in-Some.ensures.items c.in-Some-pop.ensures.items items (omega (arith, c.requires.benches.1, i.2)) i.3 i.4 i.5 i.7 i.8 in (
      c.put.ensures.seat.0 ∙ i.0,
      c.put.ensures.seat.1 ∙ (λ j. (with_items (i.1 j).0 (sym (ap (λ m. m.0.shelf.items) c.put.ensures.seat.1) j), [])),
      ap length items ∙ (length-set c.loop-bench.seat.me.0.shelf.items (length c.pop.new.self.items) _ ∙ i.2),
      one.0,
      one.1,
      one.2,
      (λ slot high. one.3 slot high ∙ i.6 slot high),
      one.4,
      one.5,
      c.in-Some.ensures.capacity ∙ i.9,
    )

pub loop-bench-preserved-in-Some-pop-2 : goal.loop-bench-preserved-in-Some-pop-2
loop-bench-preserved-in-Some-pop-2 g c =
    let i = c.loop-bench.invariant in
    let same : c.len.result ≡ length c.pop.new.self.items = search rules in
    let items : c.put.new.seat.me.0.shelf.items ≡ set c.loop-bench.seat.me.0.shelf.items (length c.pop.new.self.items) (Some (Bench record { bench = c.in-Some.bench; given = c.in-Some-pop.given })) =
    ap (λ m. m.0.shelf.items) c.put.ensures.seat.1 ∙ ap (λ k. set c.loop-bench.seat.me.0.shelf.items k (Some (Bench record { bench = c.in-Some.bench; given = c.in-Some-pop.given }))) same in
    let one = lays_one c.args.benches.now.items c.loop-bench.benches.items c.pop.new.self.items c.in-Some.bench c.loop-bench.seat.me.0.shelf.items c.put.new.seat.me.0.shelf.items c.loop-bench.rooms.items c.pop-in-Some.new.self.items c.in-Some-pop.given
    c.in-Some.ensures.items c.in-Some-pop.ensures.items items (omega (arith, c.requires.benches.1, i.2)) i.3 i.4 i.5 i.7 i.8 in (
      c.put.ensures.seat.0 ∙ i.0,
      c.put.ensures.seat.1 ∙ (λ j. (with_items (i.1 j).0 (sym (ap (λ m. m.0.shelf.items) c.put.ensures.seat.1) j), [])),
      ap length items ∙ (length-set c.loop-bench.seat.me.0.shelf.items (length c.pop.new.self.items) _ ∙ i.2),
      one.0,
      one.1,
      one.2,
      (λ slot high. one.3 slot high ∙ i.6 slot high),
      one.4,
      one.5,
      c.in-Some.ensures.capacity ∙ i.9,
    )

pub loop-bench-preserved : goal.loop-bench-preserved
loop-bench-preserved g c =
    let i = c.loop-bench.invariant in
    let same : c.len.result ≡ length c.pop.new.self.items = search rules in
    let items : c.put.new.seat.me.0.shelf.items ≡ set c.loop-bench.seat.me.0.shelf.items (length c.pop.new.self.items) (Some (Bench record { bench = c.in-Some.bench; given = c.in-Some-pop.given })) =
    ap (λ m. m.0.shelf.items) c.put.ensures.seat.1 ∙ ap (λ k. set c.loop-bench.seat.me.0.shelf.items k (Some (Bench record { bench = c.in-Some.bench; given = c.in-Some-pop.given }))) same in
    let one = lays_one c.args.benches.now.items c.loop-bench.benches.items c.pop.new.self.items c.in-Some.bench c.loop-bench.seat.me.0.shelf.items c.put.new.seat.me.0.shelf.items c.loop-bench.rooms.items c.pop-in-Some.new.self.items c.in-Some-pop.given
    c.in-Some.ensures.items c.in-Some-pop.ensures.items items (omega (arith, c.requires.benches.1, i.2)) i.3 i.4 i.5 i.7 i.8 in (
      c.put.ensures.seat.0 ∙ i.0,
      c.put.ensures.seat.1 ∙ (λ j. (with_items (i.1 j).0 (sym (ap (λ m. m.0.shelf.items) c.put.ensures.seat.1) j), [])),
      ap length items ∙ (length-set c.loop-bench.seat.me.0.shelf.items (length c.pop.new.self.items) _ ∙ i.2),
      one.0,
      one.1,
      one.2,
      (λ slot high. one.3 slot high ∙ i.6 slot high),
      one.4,
      one.5,
      c.in-Some.ensures.capacity ∙ i.9,
    )

pub returns-clause-laid : goal.returns-clause-laid
returns-clause-laid g c n bench e =
    let none : length c.loop-bench.benches.items ≡ 0 = search rules in
    c.loop-bench.invariant.5 n bench (omega (arith, none)) e
