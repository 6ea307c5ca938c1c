use Rattle.std.proofs.Common.{rules, arith, ◌≡◌, ◌<◌, ◌+◌, ℕ, [], ◌∷◌, length, get_or, sym, refl, ap, ◌∙◌, subst, length-append}
use Rattle.steal_workers.specs.declared.places.Place.{Place}
use Rattle.steal_workers.specs.Places.{TakesBack}
use Rattle.steal_workers.proofs.Changing.{from_none, from_here, from_more, from_all, popped, take_whole}
use Rattle.steal_workers.proofs.seating.take_back.Goals as goal

pub loop-pass-init : goal.loop-pass-init
loop-pass-init g c = record {
  left = search rules;
  passes = sym (take_whole c.args.row.now.items);
  changed = from_none (λ k. TakesBack 1) (length c.args.row.now.items) c.args.places.now (let long = c.requires.row.0 in omega (arith, long));
  room = refl;
}

pub loop-pass-preserved : goal.loop-pass-preserved
loop-pass-preserved g c =
    let i = c.loop-pass.invariant in
    let n : ℕ = length c.pop.new.self.items in
    let cut = c.in-Some.ensures.items in
    let next : length c.loop-pass.row.items ≡ n + 1 = omega (arith, ap length cut, length-append c.pop.new.self.items (c.in-Some.pass ∷ [])) in
    let at : c.len.result ≡ n = search rules in
    let low : n < length c.loop-pass.places = (let long = i.changed.long in let left = i.left in let rows = c.requires.row.0 in omega (arith, next, long, left, rows)) in
    let item = get_or c.loop-pass.places c.len.result c.index-places-len.result in
    let new : Place g.row.B.Denot g.row.B-Value.Denot g.row.B-Memory.Denot = record { deque = c.take_back.new.self; thief = item.thief } in
    let is = λ (d : Place g.row.B.Denot g.row.B-Value.Denot g.row.B-Memory.Denot). ap (λ (j : ℕ). get_or c.loop-pass.places j c.index-places-len.result) at ∙ from_here (λ k. TakesBack 1) n (length c.loop-pass.row.items) c.index-places-len.result d c.args.places.now c.loop-pass.places next low i.changed in
    let this : TakesBack 1 item new = record { deque = c.take_back.ensures.same; parts = c.take_back.ensures.parts; thief = refl } in record {
      left = let left = i.left in omega (arith, next, left);
      passes = (popped c.args.row.now.items c.pop.new.self.items c.in-Some.pass (length c.loop-pass.row.items) (sym cut ∙ i.passes)).0;
      changed = subst (λ (j : ℕ). Rattle.steal_workers.proofs.Changing.ChangedFrom (λ k. TakesBack 1) n c.args.places.now (Rattle.std.proofs.Common.set c.loop-pass.places j new)) (sym at)
          (from_more (λ k. TakesBack 1) n (length c.loop-pass.row.items) new c.args.places.now c.loop-pass.places next low (λ d. subst (λ (p : Place g.row.B.Denot g.row.B-Value.Denot g.row.B-Memory.Denot). TakesBack 1 p new) (is d) this) i.changed);
      room = c.pop.ensures.capacity ∙ i.room;
    }

pub returns-clause-places : goal.returns-clause-places
returns-clause-places g c =
    let i = c.loop-pass.invariant in
    let none : length c.loop-pass.row.items ≡ 0 = search rules in
    (i.changed.long, from_all (λ k. TakesBack 1) c.args.places.now c.loop-pass.places (subst (λ (j : ℕ). Rattle.steal_workers.proofs.Changing.ChangedFrom (λ k. TakesBack 1) j c.args.places.now c.loop-pass.places) none i.changed))
