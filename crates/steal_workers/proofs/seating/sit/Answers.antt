use Rattle.std.proofs.Common.{rules, arith, ◌≡◌, ◌<◌, ◌+◌, ℕ, [], ◌∷◌, length, get_or, set, take, Some, sym, refl, ap, ◌∙◌, subst, length-append}
use Rattle.std.specs.Global.{Global, Vec}
use Rattle.crossbeam_deque.specs.Handles.{Pass}
use Rattle.cycle_workers.specs.activation.specs.declared.takens.Seat.{Seat}
use Rattle.steal_workers.specs.declared.tallies.Tally.{Tally}
use Rattle.steal_workers.specs.declared.places.Place.{Place}
use Rattle.steal_workers.specs.Places.{thief_of}
use Rattle.steal_workers.proofs.Changing.{ChangedFrom, from_none, from_here, from_more, from_all, popped, take_whole}
use Rattle.steal_workers.proofs.seating.sit.Goals as goal

pub loop-seat-init : goal.loop-seat-init
loop-seat-init g c = record {
  left = let counts = c.requires.counts.0 in omega (arith, counts);
  even = c.requires.counts.1 ∙ sym c.requires.counts.0;
  seats = sym (take_whole c.args.seats.now.items);
  passes = sym (ap (λ n. take n c.args.passes.now.items) (c.requires.counts.0 ∙ sym c.requires.counts.1) ∙ take_whole c.args.passes.now.items);
  changed = from_none (λ k (old new : Place g.row.B.Denot g.row.B-Value.Denot g.row.B-Memory.Denot). (seat : Seat g.row.B.Denot g.row.B-Value.Denot g.row.B-Memory.Denot) (row : Vec (Pass ℕ Tally Global)) → new ≡ record old { thief = Some (thief_of (get_or c.args.seats.now.items k seat) (get_or c.args.passes.now.items k row)) }) (length c.args.seats.now.items) c.args.places.now (let counts = c.requires.counts.0 in omega (arith, counts));
  room = (refl, refl);
}

pub returns-clause-places : goal.returns-clause-places
returns-clause-places g c =
    let i = c.loop-seat.invariant in
    let R = λ (k : ℕ) (old new : Place g.row.B.Denot g.row.B-Value.Denot g.row.B-Memory.Denot). (seat : Seat g.row.B.Denot g.row.B-Value.Denot g.row.B-Memory.Denot) (row : Vec (Pass ℕ Tally Global)) → new ≡ record old { thief = Some (thief_of (get_or c.args.seats.now.items k seat) (get_or c.args.passes.now.items k row)) } in
    let none : length c.loop-seat.seats.items ≡ 0 = search rules in
    let all = subst (λ (n : ℕ). ChangedFrom R n c.args.places.now c.loop-seat.places) none i.changed in
    λ k place seat row low. from_all R c.args.places.now c.loop-seat.places all k place place low seat row

pub loop-seat-preserved-in-Some-pop : goal.loop-seat-preserved-in-Some-pop
loop-seat-preserved-in-Some-pop g c =
    let i = c.loop-seat.invariant in
    let n : ℕ = length c.pop.new.self.items in
    let m : ℕ = length c.loop-seat.seats.items in
    let rest = c.pop-in-Some.new.self.items in
    let cut = c.in-Some.ensures.items in
    let cut' = c.in-Some-pop.ensures.items in
    let next : m ≡ n + 1 = omega (arith, ap length cut, length-append c.pop.new.self.items (c.in-Some.seat ∷ [])) in
    let same : length rest ≡ n = (let even = i.even in omega (arith, next, even, ap length cut', length-append rest (c.in-Some-pop.row ∷ []))) in
    let at : c.len.result ≡ n = search rules in
    let R = λ (k : ℕ) (old new : Place g.row.B.Denot g.row.B-Value.Denot g.row.B-Memory.Denot). (seat : Seat g.row.B.Denot g.row.B-Value.Denot g.row.B-Memory.Denot) (row : Vec (Pass ℕ Tally Global)) → new ≡ record old { thief = Some (thief_of (get_or c.args.seats.now.items k seat) (get_or c.args.passes.now.items k row)) } in
    let low : n < length c.loop-seat.places = (let long = i.changed.long in let left = i.left in omega (arith, next, long, left)) in
    let ps = popped c.args.seats.now.items c.pop.new.self.items c.in-Some.seat m (sym cut ∙ i.seats) in
    let pr = popped c.args.passes.now.items rest c.in-Some-pop.row m (sym cut' ∙ i.passes) in
    let row_is = λ (d : Vec (Pass ℕ Tally Global)). ap (λ (k : ℕ). get_or c.args.passes.now.items k d) (sym same) ∙ pr.1 d in
    let item = get_or c.loop-seat.places c.len.result c.index-places-len.result in
    let new : Place g.row.B.Denot g.row.B-Value.Denot g.row.B-Memory.Denot = record { deque = item.deque; thief = Some (thief_of c.in-Some.seat c.in-Some-pop.row) } in
    let is = λ (d : Place g.row.B.Denot g.row.B-Value.Denot g.row.B-Memory.Denot). ap (λ (j : ℕ). get_or c.loop-seat.places j c.index-places-len.result) at ∙ from_here R n m c.index-places-len.result d c.args.places.now c.loop-seat.places next low i.changed in
    let this : (d : Place g.row.B.Denot g.row.B-Value.Denot g.row.B-Memory.Denot) → R n (get_or c.args.places.now n d) new = λ d seat row j. record (is d j) { thief = Some (thief_of (sym (ps.1 seat) j) (sym (row_is row) j)) } in record {
      left = let left = i.left in omega (arith, next, left);
      even = same;
      seats = ps.0;
      passes = pr.0 ∙ ap (λ k. take k c.args.passes.now.items) same;
      changed = subst (λ (j : ℕ). ChangedFrom R n c.args.places.now (set c.loop-seat.places j new)) (sym at) (from_more R n m new c.args.places.now c.loop-seat.places next low this i.changed);
      room = (c.pop.ensures.capacity ∙ i.room.0, c.pop-in-Some.ensures.capacity ∙ i.room.1);
    }

pub loop-seat-preserved : goal.loop-seat-preserved
loop-seat-preserved g c =
    let i = c.loop-seat.invariant in
    let n : ℕ = length c.pop.new.self.items in
    let m : ℕ = length c.loop-seat.seats.items in
    let rest = c.pop-in-Some.new.self.items in
    let cut = c.in-Some.ensures.items in
    let cut' = c.in-Some-pop.ensures.items in
    let next : m ≡ n + 1 = omega (arith, ap length cut, length-append c.pop.new.self.items (c.in-Some.seat ∷ [])) in
    let same : length rest ≡ n = (let even = i.even in omega (arith, next, even, ap length cut', length-append rest (c.in-Some-pop.row ∷ []))) in
    let at : c.len.result ≡ n = search rules in
    let R = λ (k : ℕ) (old new : Place g.row.B.Denot g.row.B-Value.Denot g.row.B-Memory.Denot). (seat : Seat g.row.B.Denot g.row.B-Value.Denot g.row.B-Memory.Denot) (row : Vec (Pass ℕ Tally Global)) → new ≡ record old { thief = Some (thief_of (get_or c.args.seats.now.items k seat) (get_or c.args.passes.now.items k row)) } in
    let low : n < length c.loop-seat.places = (let long = i.changed.long in let left = i.left in omega (arith, next, long, left)) in
    let ps = popped c.args.seats.now.items c.pop.new.self.items c.in-Some.seat m (sym cut ∙ i.seats) in
    let pr = popped c.args.passes.now.items rest c.in-Some-pop.row m (sym cut' ∙ i.passes) in
    let row_is = λ (d : Vec (Pass ℕ Tally Global)). ap (λ (k : ℕ). get_or c.args.passes.now.items k d) (sym same) ∙ pr.1 d in
    let item = get_or c.loop-seat.places c.len.result c.index-places-len.result in
    let new : Place g.row.B.Denot g.row.B-Value.Denot g.row.B-Memory.Denot = record { deque = item.deque; thief = Some (thief_of c.in-Some.seat c.in-Some-pop.row) } in
    let is = λ (d : Place g.row.B.Denot g.row.B-Value.Denot g.row.B-Memory.Denot). ap (λ (j : ℕ). get_or c.loop-seat.places j c.index-places-len.result) at ∙ from_here R n m c.index-places-len.result d c.args.places.now c.loop-seat.places next low i.changed in
    let this : (d : Place g.row.B.Denot g.row.B-Value.Denot g.row.B-Memory.Denot) → R n (get_or c.args.places.now n d) new = λ d seat row j. record (is d j) { thief = Some (thief_of (sym (ps.1 seat) j) (sym (row_is row) j)) } in record {
      left = let left = i.left in omega (arith, next, left);
      even = same;
      seats = ps.0;
      passes = pr.0 ∙ ap (λ k. take k c.args.passes.now.items) same;
      changed = subst (λ (j : ℕ). ChangedFrom R n c.args.places.now (set c.loop-seat.places j new)) (sym at) (from_more R n m new c.args.places.now c.loop-seat.places next low this i.changed);
      room = (c.pop.ensures.capacity ∙ i.room.0, c.pop-in-Some.ensures.capacity ∙ i.room.1);
    }
