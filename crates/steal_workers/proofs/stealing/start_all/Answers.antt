use Rattle.std.proofs.Common.{arith, ◌<◌, ℕ, length, get_or, sym, subst}
use Rattle.steal_workers.specs.declared.places.Place.{Place}
use Rattle.steal_workers.specs.Crews.{facts_of}
use Rattle.steal_workers.specs.Works.{IsReady, IsUnderWay}
use Rattle.steal_workers.proofs.Changing.{up_here, up_more, up_all}
use Rattle.steal_workers.proofs.stealing.start_all.Goals as goal

pub start_here-requires-clause-ready : goal.start_here-requires-clause-ready
start_here-requires-clause-ready g c κs within =
    let crew = c.args.crew.now in
    let i = c.loop-place.invariant in
    let k : ℕ = c.loop-place.place-index in
    let test : k < length c.args.places.now = c.loop-place-test.true in
    let item = c.place-item.result in
    let is = up_here (λ k. IsUnderWay (facts_of crew) c.args.stealers.now) k item item c.args.places.now c.loop-place.places (let long = i.long in omega (arith, test, long)) i in
    subst (λ (p : Place g.row.B.Denot g.row.B-Value.Denot g.row.B-Memory.Denot). IsReady g.B.Work.has_room (facts_of crew) c.args.stealers.now p) (sym is) (c.requires.ready k item test)

pub loop-place-preserved : goal.loop-place-preserved
loop-place-preserved g c =
    let crew = c.args.crew.now in
    let i = c.loop-place.invariant in
    let k : ℕ = c.loop-place.place-index in
    let test : k < length c.args.places.now = c.loop-place-test.true in
    let low : k < length c.loop-place.places = (let long = i.long in omega (arith, test, long)) in
    let new = c.start_here.new.place in
    let is = λ (d : Place g.row.B.Denot g.row.B-Value.Denot g.row.B-Memory.Denot). up_here (λ k. IsUnderWay (facts_of crew) c.args.stealers.now) k c.place-item.result d c.args.places.now c.loop-place.places low i in
    up_more (λ k. IsUnderWay (facts_of crew) c.args.stealers.now) k new c.args.places.now c.loop-place.places low
    (λ d. subst (λ (p : Place g.row.B.Denot g.row.B-Value.Denot g.row.B-Memory.Denot). IsUnderWay (facts_of crew) c.args.stealers.now p new) (is d) c.start_here.ensures) i

pub returns : goal.returns
returns g c =
    let crew = c.args.crew.now in
    let i = c.loop-place.invariant in
    let end = c.loop-place-test.false in
    let long = i.long in
    (long, up_all (λ k. IsUnderWay (facts_of crew) c.args.stealers.now) c.loop-place.place-index c.args.places.now c.loop-place.places (omega (arith, end, long)) i)
