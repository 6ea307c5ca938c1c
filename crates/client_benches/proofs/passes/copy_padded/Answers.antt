use Rattle.std.proofs.Common.{arith}
use Rattle.std.proofs.lemmas.Grind.{common_steps}
use Rattle.client_benches.proofs.passes.copy_padded.Goals as goal

pub returns-clause-samples : goal.returns-clause-samples
returns-clause-samples c = λ k h. grind (arith, common_steps)
