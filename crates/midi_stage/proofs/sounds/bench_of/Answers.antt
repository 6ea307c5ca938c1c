use Rattle.std.proofs.Common.{◌==◌, ap, arith, eq-eqb, option_map, sym}
use Rattle.midi_stage.specs.declared.sounds.Output.{Output}
use Rattle.midi_stage.proofs.HearLemmas.{find-first, find-none}
use Rattle.midi_stage.proofs.sounds.bench_of.Goals as goal

pub returns-then-output-birth : goal.returns-then-output-birth
returns-then-output-birth c =
    sym (ap (option_map (λ (output : Output). output.bench)) (find-first (λ (output : Output). output.birth == c.args.birth) c.args.outputs.now c.loop-output.output-index (record { birth = 0; bench = 0 }) c.loop-output-test.true
    (λ k h. c.loop-output.invariant k (record { birth = 0; bench = 0 }) h) (eq-eqb _ _ c.if-output-birth.true)))

pub returns : goal.returns
returns c =
    sym (ap (option_map (λ (output : Output). output.bench)) (find-none (λ (output : Output). output.birth == c.args.birth) c.args.outputs.now (record { birth = 0; bench = 0 })
    (λ k h. c.loop-output.invariant k (record { birth = 0; bench = 0 }) (omega (arith, h, c.loop-output-test.false)))))
