use Rattle.std.proofs.Common.{arith, ◌<◌, ℕ, length, get_or, refl, ap, ◌∙◌, subst}
use Rattle.steal_workers.specs.declared.places.Place.{Place}
use Rattle.steal_workers.specs.Places.{Empties, parts_of}
use Rattle.steal_workers.proofs.Changing.{up_none, up_here, up_more, up_all}
use Rattle.steal_workers.proofs.seating.clear.Goals as goal

pub loop-place-init : goal.loop-place-init
loop-place-init g c = up_none (λ k. Empties) c.args.places.now

pub clear-requires : goal.clear-requires
clear-requires g c = record {
  all =
      let i = c.loop-place.invariant in
      let k : ℕ = c.loop-place.place-index in
      let test : k < length c.args.places.now = c.loop-place-test.true in
      let is = up_here (λ k. Empties) k c.place-item.result c.place-item.result c.args.places.now c.loop-place.places (let long = i.long in omega (arith, test, long)) i in
      ap (λ (p : Place g.row.B.Denot g.row.B-Value.Denot g.row.B-Memory.Denot). parts_of p) is ∙ c.requires.parts k c.place-item.result test;
}

pub loop-place-preserved : goal.loop-place-preserved
loop-place-preserved g c =
    let i = c.loop-place.invariant in
    let k : ℕ = c.loop-place.place-index in
    let test : k < length c.args.places.now = c.loop-place-test.true in
    let low : k < length c.loop-place.places = (let long = i.long in omega (arith, test, long)) in
    let item = get_or c.loop-place.places k c.place-item.result in
    let new : Place g.row.B.Denot g.row.B-Value.Denot g.row.B-Memory.Denot = record { deque = c.clear.new.self; thief = item.thief } in
    let is = λ (d : Place g.row.B.Denot g.row.B-Value.Denot g.row.B-Memory.Denot). up_here (λ k. Empties) k c.place-item.result d c.args.places.now c.loop-place.places low i in
    let this : Empties item new = record { deque = c.clear.ensures.same; all = c.clear.ensures.empty.0; even = c.clear.ensures.empty.1; thief = refl } in
    up_more (λ k. Empties) k new c.args.places.now c.loop-place.places low (λ d. subst (λ (p : Place g.row.B.Denot g.row.B-Value.Denot g.row.B-Memory.Denot). Empties p new) (is d) this) i

pub returns : goal.returns
returns g c =
    let i = c.loop-place.invariant in
    let end = c.loop-place-test.false in
    (i.long, up_all (λ k. Empties) c.loop-place.place-index c.args.places.now c.loop-place.places (omega (arith, end)) i)
