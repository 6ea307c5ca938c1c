use Rattle.std.proofs.Common.{◌∙◌, refl, sym, ap, arith}
use Rattle.disk_player.specs.Playing.{Playing}
use Rattle.disk_player.proofs.StepLemmas.{breaks, breaks-first, goes-on, on-err, starts}
use Rattle.disk_player.proofs.player.DiskPlayer.turn.Goals as goal

pub returns-in_err-look_ahead-clause-err : goal.returns-in_err-look_ahead-clause-err
returns-in_err-look_ahead-clause-err g c =
    let none = c.in_err-look_ahead.ensures.none in
    on-err c.from_residual.result (breaks-first c.args.most c.args.self.now c.look_ahead.new.self c.in_err-look_ahead.ensures.kept c.in_err-look_ahead.ensures.format none.0 none.1)

pub loop-count-init : goal.loop-count-init
loop-count-init g c = record {
  on = λ before looks. starts before c.look_ahead.new.self looks;
  ready = c.in_ok-look_ahead.ensures.ahead.ready;
  faults = refl;
}

pub returns-then-is_over-clause-ok : goal.returns-then-is_over-clause-ok
returns-then-is_over-clause-ok g c = record {
  count = c.loop-count.count;
  passed = c.loop-count.self;
  puts = c.loop-count.invariant.on c.args.self.now c.in_ok-look_ahead.ensures.ahead;
  ends = (omega (arith, c.loop-count-test.true), sym c.is_over.ensures ∙ c.if-is_over.true, refl);
}

pub returns-in-Err-clause-ok : goal.returns-in-Err-clause-ok
returns-in-Err-clause-ok g c =
    let full = c.in-Err.ensures.full in
    record {
      count = c.loop-count.count;
      passed = c.loop-count.self;
      puts = c.loop-count.invariant.on c.args.self.now c.in_ok-look_ahead.ensures.ahead;
      ends = (c.loop-count-test.true, sym c.is_over.ensures ∙ c.if-is_over.false, full.1, full.0, c.in-Err.ensures.kept);
    }

pub returns-in_err-look_ahead-2-clause-err : goal.returns-in_err-look_ahead-2-clause-err
returns-in_err-look_ahead-2-clause-err g c =
    let none = c.in_err-look_ahead-2.ensures.none in
    on-err c.from_residual-in_err-look_ahead-2.result
    (breaks c.loop-count.count c.args.self.now c.loop-count.self c.put.new.self (c.loop-count.invariant.on c.args.self.now c.in_ok-look_ahead.ensures.ahead)
    (sym c.is_over.ensures ∙ c.if-is_over.false) c.in_default.ensures.went c.args.most c.look_ahead-in-loop-count.new.self c.loop-count-test.true
    c.in_err-look_ahead-2.ensures.kept c.in_err-look_ahead-2.ensures.format none.1)

pub loop-count-preserved : goal.loop-count-preserved
loop-count-preserved g c =
    let looks = c.in_ok-look_ahead-2.ensures.ahead in
    let next = c.in_default.ensures.went in
    record {
      on = λ before first. goes-on c.loop-count.count before c.loop-count.self c.put.new.self (c.loop-count.invariant.on before first) (sym c.is_over.ensures ∙ c.if-is_over.false) next c.look_ahead-in-loop-count.new.self looks;
      ready = looks.ready;
      faults = looks.faults ∙ ap (λ (p : Playing). p.faults) next.rest_is ∙ c.loop-count.invariant.faults;
    }

pub returns-then-is_over-2-clause-ok : goal.returns-then-is_over-2-clause-ok
returns-then-is_over-2-clause-ok g c = record {
  count = c.loop-count.count;
  passed = c.loop-count.self;
  puts = c.loop-count.invariant.on c.args.self.now c.in_ok-look_ahead.ensures.ahead;
  ends = (c.loop-count.auto.count-end, sym c.is_over-2.ensures ∙ c.if-is_over-2.true, refl);
}

pub returns-else-is_over-2-clause-ok : goal.returns-else-is_over-2-clause-ok
returns-else-is_over-2-clause-ok g c = record {
  count = c.loop-count.count;
  passed = c.loop-count.self;
  puts = c.loop-count.invariant.on c.args.self.now c.in_ok-look_ahead.ensures.ahead;
  ends = (refl, omega (arith, c.loop-count.auto.count-end, c.loop-count-test.false), sym c.is_over-2.ensures ∙ c.if-is_over-2.false, refl);
}
