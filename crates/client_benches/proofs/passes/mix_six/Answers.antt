use Rattle.std.proofs.Common.{[], ◌∷◌, ◌∙◌, length, arith, rules}
use Rattle.std.proofs.lemmas.Grind.{common_steps}
use Rattle.client_benches.proofs.PartLemmas.{mixed-all, mixed-more}
use Rattle.client_benches.proofs.passes.mix_six.Goals as goal

pub loop-place-preserved : goal.loop-place-preserved
loop-place-preserved c = record {
  long = grind (arith, common_steps);
  done = mixed-more c.loop-place.place c.loop-place.out (c.args.one.now ∷ c.args.two.now ∷ c.args.three.now ∷ c.args.four.now ∷ c.args.five.now ∷ c.args.six.now ∷ []) _
      (omega (arith, c.loop-place-test.true, c.loop-place.auto.place-end, c.of_four-half.ensures.frames, c.of_two-whole.ensures.frames, c.loop-place.invariant.long)) c.loop-place.invariant.done (search rules);
}

pub loop-lacking-preserved : goal.loop-lacking-preserved
loop-lacking-preserved c = record {
  long = grind (arith, common_steps);
  done = mixed-more c.loop-lacking.lacking c.loop-lacking.out (c.args.one.now ∷ c.args.two.now ∷ c.args.three.now ∷ c.args.four.now ∷ c.args.five.now ∷ c.args.six.now ∷ []) _
      (omega (arith, c.loop-lacking-test.true, c.loop-lacking.auto.lacking-end, c.loop-lacking.auto.out, c.loop-lacking.invariant.long, c.loop-place.invariant.long)) c.loop-lacking.invariant.done (search rules);
}

pub returns : goal.returns
returns c = mixed-all (length c.args.out.now) c.loop-lacking.lacking c.loop-lacking.out (c.args.one.now ∷ c.args.two.now ∷ c.args.three.now ∷ c.args.four.now ∷ c.args.five.now ∷ c.args.six.now ∷ [])
    (c.loop-lacking.invariant.long ∙ c.loop-place.invariant.long) (omega (arith, c.loop-lacking-test.false, c.loop-lacking.auto.lacking-end, c.loop-lacking.auto.out, c.loop-lacking.invariant.long, c.loop-place.invariant.long)) c.loop-lacking.invariant.done
