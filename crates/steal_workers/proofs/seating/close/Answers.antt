use Rattle.std.proofs.Common.{arith, ◌≡◌, ◌<◌, ◌≤◌, ◌+◌, ℕ, [], length, get_or, vec_capacity, sym, ap, subst}
use Rattle.std.specs.Global.{Global, Vec}
use Rattle.crossbeam_deque.specs.Handles.{Pass}
use Rattle.steal_workers.specs.declared.tallies.Tally.{Tally}
use Rattle.steal_workers.specs.Places.{Paired, IsPassAt, TakesBack}
use Rattle.steal_workers.proofs.Changing.{up_none, up_here, up_more, up_all, paired_trans}
use Rattle.steal_workers.proofs.Seated.{takes_more, row_left, none_left}
use Rattle.steal_workers.proofs.seating.close.Goals as goal

pub loop-row-init : goal.loop-row-init
loop-row-init g c = record {
  places = none_left c.args.places.now;
  changed = up_none (λ k (old new : Vec (Pass ℕ Tally Global)). (new.items ≡ []) × (length c.args.places.now ≤ vec_capacity new)) c.args.passes.now;
}

pub take_back-requires-clause-row : goal.take_back-requires-clause-row
take_back-requires-clause-row g c κs within =
    let i = c.loop-row.invariant in
    let k : ℕ = c.loop-row.row-index in
    let test : k < length c.args.passes.now = c.loop-row-test.true in
    let low : k < length c.loop-row.passes = (let long = i.changed.long in omega (arith, test, long)) in
    let is = up_here (λ k (old new : Vec (Pass ℕ Tally Global)). (new.items ≡ []) × (length c.args.places.now ≤ vec_capacity new)) k c.row-item.result c.row-item.result c.args.passes.now c.loop-row.passes low i.changed in
    subst (λ (row : Vec (Pass ℕ Tally Global)). Paired IsPassAt c.loop-row.places row.items) (sym is) (row_left k c.args.places.now c.loop-row.places (get_or c.args.passes.now k c.row-item.result).items i.places (c.requires.passes k c.row-item.result test).0)

pub loop-row-preserved : goal.loop-row-preserved
loop-row-preserved g c =
    let i = c.loop-row.invariant in
    let k : ℕ = c.loop-row.row-index in
    let test : k < length c.args.passes.now = c.loop-row-test.true in
    let low : k < length c.loop-row.passes = (let long = i.changed.long in omega (arith, test, long)) in
    let R = λ (k : ℕ) (old new : Vec (Pass ℕ Tally Global)). (new.items ≡ []) × (length c.args.places.now ≤ vec_capacity new) in
    let is = up_here R k c.row-item.result c.row-item.result c.args.passes.now c.loop-row.passes low i.changed in
    let room : length c.args.places.now ≤ vec_capacity c.take_back.new.row = (let it = (c.requires.passes k c.row-item.result test).1 in let same = ap (λ (row : Vec (Pass ℕ Tally Global)). vec_capacity row) is in let kept = c.take_back.ensures.room in omega (arith, it, same, kept)) in record {
      places = paired_trans (TakesBack k) (TakesBack 1) (TakesBack (k + 1)) c.args.places.now c.loop-row.places c.take_back.new.places (takes_more k) i.places c.take_back.ensures.places;
      changed = up_more R k c.take_back.new.row c.args.passes.now c.loop-row.passes low (λ d. (c.take_back.ensures.row, room)) i.changed;
    }

pub returns-clause-room : goal.returns-clause-room
returns-clause-room g c =
    let i = c.loop-row.invariant in
    let end = c.loop-row-test.false in
    let long = i.changed.long in
    λ k d low. up_all (λ k (old new : Vec (Pass ℕ Tally Global)). (new.items ≡ []) × (length c.args.places.now ≤ vec_capacity new)) c.loop-row.row-index c.args.passes.now c.loop-row.passes (omega (arith, end)) i.changed k d d (omega (arith, low, long))

pub returns-clause-places : goal.returns-clause-places
returns-clause-places g c =
    let end = c.loop-row-test.false in
    let stop = c.loop-row.auto.row-index-end in
    let is : c.loop-row.row-index ≡ length c.args.passes.now = omega (arith, end, stop) in
    subst (λ (n : ℕ). Paired (TakesBack n) c.args.places.now c.loop-row.places) is c.loop-row.invariant.places
