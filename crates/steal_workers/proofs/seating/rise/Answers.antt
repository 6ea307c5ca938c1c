use Rattle.std.proofs.Common.{rules, arith, ◌≡◌, ◌<◌, ℕ, List, length, get_or, None, Some, sym, refl, ap, ◌∙◌, subst}
use Rattle.std.specs.Global.{Global, Vec}
use Rattle.crossbeam_deque.specs.Handles.{Pass}
use Rattle.cycle_workers.specs.activation.specs.declared.takens.Seat.{Seat}
use Rattle.steal_workers.specs.declared.tallies.Tally.{Tally}
use Rattle.steal_workers.specs.declared.places.Place.{Place}
use Rattle.steal_workers.specs.Places.{thief_of}
use Rattle.steal_workers.proofs.Changing.{up_none, up_here, up_more}
use Rattle.steal_workers.proofs.Seated.{thieves_more}
use Rattle.steal_workers.proofs.seating.rise.Goals as goal

pub loop-place-init : goal.loop-place-init
loop-place-init g c = record {
  risen = (ap length c.requires.seats.0, ap length c.requires.passes.0);
  thieves = λ k place seat row less. absurd (omega (arith, less));
  changed = up_none (λ k (old new : Place g.row.B.Denot g.row.B-Value.Denot g.row.B-Memory.Denot). new ≡ record old { thief = None }) c.args.places.now;
  room = (refl, refl);
}

pub loop-place-preserved : goal.loop-place-preserved
loop-place-preserved g c =
    let i = c.loop-place.invariant in
    let k : ℕ = c.loop-place.place-index in
    let R = λ (k : ℕ) (old new : Place g.row.B.Denot g.row.B-Value.Denot g.row.B-Memory.Denot). new ≡ record old { thief = None } in
    let test : k < length c.args.places.now = c.loop-place-test.true in
    let low : k < length c.loop-place.places = (let long = i.changed.long in omega (arith, test, long)) in
    let item = get_or c.loop-place.places k c.place-item.result in
    let new : Place g.row.B.Denot g.row.B-Value.Denot g.row.B-Memory.Denot = record { deque = item.deque; thief = c.take.new.self } in
    let is = λ (d : Place g.row.B.Denot g.row.B-Value.Denot g.row.B-Memory.Denot). up_here R k c.place-item.result d c.args.places.now c.loop-place.places low i.changed in
    let empty : c.take.new.self ≡ None = search rules in
    let was : item.thief ≡ Some (thief_of c.in-Some.field-0.seat c.in-Some.field-0.passes) = search rules in record {
      risen = (search rules, search rules);
      thieves = λ j place seat row less.
          subst (λ (all : List (Seat g.row.B.Denot g.row.B-Value.Denot g.row.B-Memory.Denot) × List (Vec (Pass ℕ Tally Global))). (get_or c.args.places.now j place).thief ≡ Some (thief_of (get_or all.0 j seat) (get_or all.1 j row))) (λ m. (sym c.push_reserved.ensures.items m, sym c.push_reserved-in-loop-place.ensures.items m))
          (thieves_more c.args.places.now c.loop-place.seats.items c.loop-place.passes.items k c.in-Some.field-0.seat c.in-Some.field-0.passes i.risen.0 i.risen.1 (λ d. ap (λ (p : Place g.row.B.Denot g.row.B-Value.Denot g.row.B-Memory.Denot). p.thief) (sym (is d)) ∙ was) i.thieves j place seat row less);
      changed = up_more R k new c.args.places.now c.loop-place.places low (λ d. subst (λ (p : Place g.row.B.Denot g.row.B-Value.Denot g.row.B-Memory.Denot). new ≡ record p { thief = None }) (is d) (ap (λ t. record item { thief = t }) empty)) i.changed;
      room = (c.push_reserved.ensures.capacity ∙ i.room.0, c.push_reserved-in-loop-place.ensures.capacity ∙ i.room.1);
    }
