use Rattle.std.proofs.Common.{arith}
use Rattle.latency_ranges.specs.Tables.{brought, is_far, is_near}
use Rattle.latency_ranges.proofs.SweepLemmas.{have_ids-more, not-true, shown-all, shown-kept, shown-more}
use Rattle.latency_ranges.proofs.joins.join_edges.Goals as goal

pub loop-place-init : goal.loop-place-init
loop-place-init c = record {
  room = c.requires.room;
  ids = λ k port low at. absurd (omega (arith, low));
  far = λ range shown. shown;
  near = λ range shown k port low at t. absurd (omega (arith, low));
}

pub loop-place-preserved : goal.loop-place-preserved
loop-place-preserved c = record {
  room = c.join_place.ensures.room;
  ids = have_ids-more c.args.ports.now c.loop-place.place c.join_place.ensures.ids c.loop-place.invariant.ids;
  far = λ range shown.
      shown-kept c.args.ports.now (is_far c.args.mode) range c.loop-place.place c.loop-place.table c.join_place.new.table c.join_place.ensures.elsewhere
      (λ port at t. c.join_place.ensures.far port at (not-true (is_near c.args.mode port) t)) (c.loop-place.invariant.far range shown);
  near = λ range shown.
      shown-more c.args.ports.now (is_near c.args.mode) (brought c.args.ports.now c.args.edges.now c.args.mode range) c.loop-place.place c.loop-place.table c.join_place.new.table c.join_place.ensures.elsewhere
      (λ port at t. c.join_place.ensures.near port at t range (c.loop-place.invariant.far range shown)) (c.loop-place.invariant.near range shown);
}

pub returns-clause-ids : goal.returns-clause-ids
returns-clause-ids c = λ k port low at. c.loop-place.invariant.ids k port (omega (arith, c.loop-place-test.false, low)) at

pub returns-clause-far : goal.returns-clause-far
returns-clause-far c = λ range shown. c.loop-place.invariant.far range shown

pub returns-clause-near : goal.returns-clause-near
returns-clause-near c = λ range shown.
    shown-all c.args.ports.now (is_near c.args.mode) (brought c.args.ports.now c.args.edges.now c.args.mode range) c.loop-place.place c.loop-place.table (omega (arith, c.loop-place-test.false)) (c.loop-place.invariant.near range shown)
