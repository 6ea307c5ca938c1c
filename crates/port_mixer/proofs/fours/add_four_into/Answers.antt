use Rattle.std.proofs.Common.{◌+ℤ◌, [], ◌∷◌, fold, arith, rules}
use Rattle.session_laws.specs.session_model.specs.Samples.{sample}
use Rattle.port_mixer.proofs.SumLemmas.{all_added-is, more-of}
use Rattle.port_mixer.proofs.fours.add_four_into.Goals as goal

pub loop-i-preserved : goal.loop-i-preserved
loop-i-preserved c = record {
  done = more-of (λ k. fold ◌+ℤ◌ (sample c.args.sums.now k) (sample c.args.one.now k ∷ sample c.args.two.now k ∷ sample c.args.three.now k ∷ sample c.args.four.now k ∷ []))
      c.loop-i.i c.loop-i.sums _ (omega (arith, c.loop-i-test.true, c.loop-i.auto.sums)) c.loop-i.invariant.done (search rules);
  rest = search rules;
}

pub returns : goal.returns
returns c = all_added-is c.args.sums.now c.loop-i.sums (c.args.one.now ∷ c.args.two.now ∷ c.args.three.now ∷ c.args.four.now ∷ []) c.loop-i.auto.sums
    (λ k h. c.loop-i.invariant.done k (omega (arith, h, c.loop-i-test.false)))
