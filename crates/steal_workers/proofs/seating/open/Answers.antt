use Rattle.std.proofs.Common.{arith, ◌≡◌, ◌<◌, ◌≤◌, ◌+◌, ℕ, [], length, vec_capacity, sym, ap, subst}
use Rattle.std.specs.Global.{Global, Vec}
use Rattle.crossbeam_deque.specs.Handles.{Pass}
use Rattle.steal_workers.specs.declared.tallies.Tally.{Tally}
use Rattle.steal_workers.specs.Places.{Paired, IsPassAt, Lends}
use Rattle.steal_workers.proofs.Changing.{up_none, up_here, up_more, up_all, up_map, paired_trans}
use Rattle.steal_workers.proofs.Seated.{lends_more, row_lent, none_lent, has_part}
use Rattle.steal_workers.proofs.seating.open.Goals as goal

pub loop-row-init : goal.loop-row-init
loop-row-init g c = record {
  places = none_lent c.args.places.now;
  changed = up_none (λ k (old new : Vec (Pass ℕ Tally Global)). Paired IsPassAt c.args.places.now new.items × (length c.args.places.now ≤ vec_capacity new)) c.args.passes.now;
}

pub lend-requires-clause-row : goal.lend-requires-clause-row
lend-requires-clause-row g c κs within =
    let i = c.loop-row.invariant in
    let k : ℕ = c.loop-row.row-index in
    let test : k < length c.args.passes.now = c.loop-row-test.true in
    let low : k < length c.loop-row.passes = (let long = i.changed.long in omega (arith, test, long)) in
    let is = up_here (λ k (old new : Vec (Pass ℕ Tally Global)). Paired IsPassAt c.loop-row.places new.items × (length c.args.places.now ≤ vec_capacity new)) k c.row-item.result c.row-item.result c.args.passes.now c.loop-row.passes low i.changed in
    subst (λ (row : Vec (Pass ℕ Tally Global)). (row.items ≡ []) × (length c.loop-row.places ≤ vec_capacity row)) (sym is)
    (let it = c.requires.room k c.row-item.result test in let room = it.1 in let long = i.places.0 in (it.0, omega (arith, room, long)))

pub lend-requires-clause-parts : goal.lend-requires-clause-parts
lend-requires-clause-parts g c κs within =
    let i = c.loop-row.invariant in
    has_part c.loop-row.row-index (length c.args.passes.now) c.args.places.now c.loop-row.places c.loop-row-test.true i.places c.requires.parts

pub loop-row-preserved : goal.loop-row-preserved
loop-row-preserved g c =
    let i = c.loop-row.invariant in
    let k : ℕ = c.loop-row.row-index in
    let test : k < length c.args.passes.now = c.loop-row-test.true in
    let low : k < length c.loop-row.passes = (let long = i.changed.long in omega (arith, test, long)) in
    let Old = λ (k : ℕ) (old new : Vec (Pass ℕ Tally Global)). Paired IsPassAt c.loop-row.places new.items × (length c.args.places.now ≤ vec_capacity new) in
    let New = λ (k : ℕ) (old new : Vec (Pass ℕ Tally Global)). Paired IsPassAt c.lend.new.places new.items × (length c.args.places.now ≤ vec_capacity new) in
    let is = up_here Old k c.row-item.result c.row-item.result c.args.passes.now c.loop-row.passes low i.changed in
    let room : length c.args.places.now ≤ vec_capacity c.lend.new.row = (let it = (c.requires.room k c.row-item.result test).1 in let same = ap (λ (row : Vec (Pass ℕ Tally Global)). vec_capacity row) is in let kept = c.lend.ensures.room in omega (arith, it, same, kept)) in
    let moved = up_map Old New k c.args.passes.now c.loop-row.passes (λ j a b h. (row_lent 1 c.loop-row.places c.lend.new.places b.items c.lend.ensures.places h.0, h.1)) i.changed in record {
      places = paired_trans (Lends k) (Lends 1) (Lends (k + 1)) c.args.places.now c.loop-row.places c.lend.new.places (lends_more k) i.places c.lend.ensures.places;
      changed = up_more New k c.lend.new.row c.args.passes.now c.loop-row.passes low (λ d. (c.lend.ensures.row, room)) moved;
    }

pub returns-clause-passes : goal.returns-clause-passes
returns-clause-passes g c =
    let i = c.loop-row.invariant in
    let end = c.loop-row-test.false in
    let long = i.changed.long in
    λ k d low. up_all (λ k (old new : Vec (Pass ℕ Tally Global)). Paired IsPassAt c.loop-row.places new.items × (length c.args.places.now ≤ vec_capacity new)) c.loop-row.row-index c.args.passes.now c.loop-row.passes (omega (arith, end)) i.changed k d d (omega (arith, low, long))

pub returns-clause-places : goal.returns-clause-places
returns-clause-places g c =
    let end = c.loop-row-test.false in
    let stop = c.loop-row.auto.row-index-end in
    let is : c.loop-row.row-index ≡ length c.args.passes.now = omega (arith, end, stop) in
    subst (λ (n : ℕ). Paired (Lends n) c.args.places.now c.loop-row.places) is c.loop-row.invariant.places
