use Rattle.std.proofs.Common.{rules, ◌≡◌, List, Option, Some, vec_capacity, refl, sym, ap, ◌∙◌, subst}
use Rattle.steal_workers.specs.declared.places.Thief.{Thief}
use Rattle.steal_workers.specs.Deques.{IsPassFor}
use Rattle.steal_workers.specs.Places.{Paired, thief_of}
use Rattle.steal_workers.specs.Steals.{HasWorked}
use Rattle.steal_workers.proofs.stealing.start_here.Goals as goal

one_some : {X : Type 0} (o : Option X) (x y : X) → o ≡ Some x → o ≡ Some y → x ≡ y
one_some o x y e f = cc

pub returns-in-Some : goal.returns-in-Some
returns-in-Some g c =
    let crew = c.args.crew.now in
    let T : Type 0 = Thief g.row.B.Denot g.row.B-Value.Denot g.row.B-Memory.Denot in
    let ready = c.requires.ready in
    let now = c.start.new.seat in
    let thief : T = c.in-Some.thief in
    let there : c.args.place.now.thief ≡ Some thief = c.in-Some.is in
    let worked : HasWorked crew.nodes crew.seats now.number thief.seat.token.me.0.duty now.token.me.0.duty = search rules in record {
      thief = thief_of now thief.passes;
      there = refl;
      deque = c.start.ensures.deque;
      behind = λ before is.
          let same : thief ≡ before = one_some c.args.place.now.thief thief before there is in
          let mine : ready.thief ≡ thief = one_some c.args.place.now.thief ready.thief thief ready.there there in record {
            number = c.start.ensures.seat.0 ∙ ap (λ (t : T). t.seat.number) same;
            sits = c.start.ensures.seat.1;
            worked = subst (λ (t : T). HasWorked crew.nodes crew.seats now.number t.seat.token.me.0.duty now.token.me.0.duty) same worked;
            passes = subst (λ (t : T). Paired IsPassFor c.args.stealers.now t.passes.items) mine ready.passes;
            room = ap (λ (t : T). vec_capacity t.passes) same;
          };
    }
