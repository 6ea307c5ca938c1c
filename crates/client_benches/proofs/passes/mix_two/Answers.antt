use Rattle.std.proofs.Common.{[], ◌∷◌, ◌∙◌, length, arith}
use Rattle.client_benches.proofs.PartLemmas.{mixed-all}
use Rattle.client_benches.proofs.passes.mix_two.Goals as goal

pub returns : goal.returns
returns c = mixed-all (length c.args.out.now) c.loop-lacking.lacking c.loop-lacking.out (c.args.one.now ∷ c.args.two.now ∷ [])
    (c.loop-lacking.invariant.long ∙ c.loop-place.invariant.long) (omega (arith, c.loop-lacking-test.false, c.loop-lacking.auto.lacking-end, c.loop-lacking.auto.out, c.loop-lacking.invariant.long, c.loop-place.invariant.long)) c.loop-lacking.invariant.done
