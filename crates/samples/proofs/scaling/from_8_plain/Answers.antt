use Rattle.std.proofs.Common.{arith}
use Rattle.samples.proofs.ScalingLemmas.{samples_8}
use Rattle.samples.proofs.scaling.from_8_plain.Goals as goal

pub returns : goal.returns
returns c = samples_8 c.args.bytes.now _ (omega arith) (λ k h. c.loop-i.invariant k (omega arith))
