use Rattle.std.proofs.Common.{◌==◌, ap, arith, eq-eqb, option_map, sym}
use Rattle.client_wiring.specs.declared.joints.Given.{Given}
use Rattle.client_tasks.proofs.ListLemmas.{find-first, find-none}
use Rattle.client_tasks.proofs.placing.output_of.Goals as goal

pub returns-then-one-birth : goal.returns-then-one-birth
returns-then-one-birth c =
    sym (ap (option_map (λ (one : Given). one.output)) (find-first (λ (one : Given). one.birth == c.args.birth) c.args.given.now c.loop-one.one-index (record { birth = 0; node = 0; output = 0 }) c.loop-one-test.true
    (λ k h. c.loop-one.invariant k (record { birth = 0; node = 0; output = 0 }) h) (eq-eqb _ _ c.if-one-birth.true)))

pub returns : goal.returns
returns c =
    sym (ap (option_map (λ (one : Given). one.output)) (find-none (λ (one : Given). one.birth == c.args.birth) c.args.given.now (record { birth = 0; node = 0; output = 0 })
    (λ k h. c.loop-one.invariant k (record { birth = 0; node = 0; output = 0 }) (omega (arith, h, c.loop-one-test.false)))))
