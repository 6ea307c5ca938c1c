use Rattle.std.proofs.Common.{arith}
use Rattle.samples.proofs.ScalingLemmas.{samples_16}
use Rattle.samples.proofs.scaling.from_16_plain.Goals as goal

pub returns : goal.returns
returns c = samples_16 c.args.bytes.now _ (omega arith) (λ k h. c.loop-i.invariant k (omega arith))
