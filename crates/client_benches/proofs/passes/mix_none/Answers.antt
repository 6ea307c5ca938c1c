use Rattle.std.proofs.Common.{length, arith}
use Rattle.std.proofs.lemmas.Grind.{common_steps}
use Rattle.client_benches.proofs.PartLemmas.{mixed-none}
use Rattle.client_benches.proofs.passes.mix_none.Goals as goal

pub returns : goal.returns
returns c = mixed-none (length c.args.out.now) c.fill.new.self (grind (arith, common_steps)) (λ k h. grind (arith, common_steps))
