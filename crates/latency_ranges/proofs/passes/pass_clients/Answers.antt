use Rattle.std.proofs.Common.{◌∙◌, arith, refl, sym, true≢false}
use Rattle.jack_types.specs.declared.ports.Port.{Port}
use Rattle.latency_ranges.specs.Tables.{held, is_far, is_near}
use Rattle.latency_ranges.proofs.SweepLemmas.{not-true, shown-all, shown-kept, shown-more}
use Rattle.latency_ranges.proofs.passes.pass_clients.Goals as goal
use Rattle.latency_ranges.proofs.passes.pass_clients.Goals.{then-pass_place, else-pass_place}

pub loop-place-init : goal.loop-place-init
loop-place-init c = record {
  room = c.requires;
  near = λ range shown. shown;
  far = λ range shown k port low at t. absurd (omega (arith, low));
  same = λ e. refl;
}

pub loop-place-preserved : goal.loop-place-preserved
loop-place-preserved c = record {
  room = c.pass_place.ensures.room;
  near = λ range shown.
      shown-kept c.args.ports.now (is_near c.args.mode) range c.loop-place.place c.loop-place.table c.pass_place.new.table c.pass_place.ensures.elsewhere c.pass_place.ensures.near (c.loop-place.invariant.near range shown);
  far = λ range shown.
      shown-more c.args.ports.now (is_far c.args.mode) (λ (port : Port). held c.args.ports.now c.args.delays.now c.args.mode range port.node) c.loop-place.place c.loop-place.table c.pass_place.new.table c.pass_place.ensures.elsewhere
      (λ port at t. c.pass_place.ensures.far port at (not-true (is_near c.args.mode port) t) range (c.loop-place.invariant.near range shown)) (c.loop-place.invariant.far range shown);
  same = λ e.
      elim c.if-pass_place.branch [
        | then-pass_place w ↦ absurd (true≢false (sym w.changed-is ∙ e))
        | else-pass_place w ↦ c.pass_place.ensures.same w.if-pass_place.false ∙ c.loop-place.invariant.same (sym w.changed-is ∙ e)
      ];
}

pub returns-clause-far : goal.returns-clause-far
returns-clause-far c = λ range shown.
    shown-all c.args.ports.now (is_far c.args.mode) (λ (port : Port). held c.args.ports.now c.args.delays.now c.args.mode range port.node) c.loop-place.place c.loop-place.table (omega (arith, c.loop-place-test.false)) (c.loop-place.invariant.far range shown)

pub returns-clause-same : goal.returns-clause-same
returns-clause-same c = λ e. c.loop-place.invariant.same e
