use Rattle.std.proofs.Common.{arith}
use Rattle.samples.proofs.ScalingLemmas.{samples_32}
use Rattle.samples.proofs.scaling.from_32_plain.Goals as goal

pub returns : goal.returns
returns c = samples_32 c.args.bytes.now _ (omega arith) (λ k h. c.loop-i.invariant k (omega arith))
