use Rattle.std.proofs.Common.{rules, arith, ◌<◌, ℕ, length, set, get_or, sym, refl, ap, ◌∙◌, subst}
use Rattle.steal_workers.specs.declared.places.Place.{Place}
use Rattle.steal_workers.specs.Places.{IsPassAt, Lends, parts_of}
use Rattle.steal_workers.proofs.Changing.{up_none, up_here, up_more, up_all, both_more}
use Rattle.steal_workers.proofs.Seated.{pass_stays, one_less}
use Rattle.steal_workers.proofs.seating.lend.Goals as goal

pub loop-place-init : goal.loop-place-init
loop-place-init g c = record {
  changed = up_none (λ k. Lends 1) c.args.places.now;
  lent = ap length c.requires.row.0;
  passes = λ k d e less. absurd (omega (arith, less));
  room = refl;
}

pub lend-requires : goal.lend-requires
lend-requires g c = record {
  parts =
      let i = c.loop-place.invariant in
      let k : ℕ = c.loop-place.place-index in
      let test : k < length c.args.places.now = c.loop-place-test.true in
      let item = c.place-item.result in
      let is = up_here (λ k. Lends 1) k item item c.args.places.now c.loop-place.places (let long = i.changed.long in omega (arith, test, long)) i.changed in
      subst (λ (p : Place g.row.B.Denot g.row.B-Value.Denot g.row.B-Memory.Denot). 1 < parts_of p) (sym is) (c.requires.parts k item test);
}

pub loop-place-preserved : goal.loop-place-preserved
loop-place-preserved g c =
    let i = c.loop-place.invariant in
    let k : ℕ = c.loop-place.place-index in
    let test : k < length c.args.places.now = c.loop-place-test.true in
    let low : k < length c.loop-place.places = (let long = i.changed.long in omega (arith, test, long)) in
    let item = get_or c.loop-place.places k c.place-item.result in
    let new : Place g.row.B.Denot g.row.B-Value.Denot g.row.B-Memory.Denot = record { deque = c.lend.new.self; thief = item.thief } in
    let is = λ (d : Place g.row.B.Denot g.row.B-Value.Denot g.row.B-Memory.Denot). up_here (λ k. Lends 1) k c.place-item.result d c.args.places.now c.loop-place.places low i.changed in
    let many : 1 < parts_of item = subst (λ (p : Place g.row.B.Denot g.row.B-Value.Denot g.row.B-Memory.Denot). 1 < parts_of p) (sym (is item)) (c.requires.parts k item test) in
    let this : Lends 1 item new = record {
      deque = c.lend.ensures.same;
      parts = one_less (parts_of item) (parts_of new) many (ap (λ v. v.parts) c.lend.ensures.lent.0);
      thief = refl;
    } in record {
      changed = up_more (λ k. Lends 1) k new c.args.places.now c.loop-place.places low (λ d. subst (λ (p : Place g.row.B.Denot g.row.B-Value.Denot g.row.B-Memory.Denot). Lends 1 p new) (is d) this) i.changed;
      lent = search rules;
      passes = λ j d e less. subst (λ row. IsPassAt (get_or (set c.loop-place.places k new) j d) (get_or row j e)) (sym c.push_reserved.ensures.items)
          (both_more IsPassAt c.loop-place.places c.loop-place.row.items k new c.lend.result low i.lent (pass_stays item.deque c.lend.new.self c.lend.result c.lend.ensures.same c.lend.ensures.lent.1) i.passes j d e less);
      room = c.push_reserved.ensures.capacity ∙ i.room;
    }

pub returns-clause-row : goal.returns-clause-row
returns-clause-row g c =
    let i = c.loop-place.invariant in
    let end = c.loop-place-test.false in
    let stop = c.loop-place.auto.place-index-end in
    (let lent = i.lent in omega (arith, lent, end, stop), λ k x y low. i.passes k x y (omega (arith, low, end)))

pub returns-clause-places : goal.returns-clause-places
returns-clause-places g c =
    let i = c.loop-place.invariant in
    let end = c.loop-place-test.false in
    let long = i.changed.long in
    (long, up_all (λ k. Lends 1) c.loop-place.place-index c.args.places.now c.loop-place.places (omega (arith, end, long)) i.changed)
