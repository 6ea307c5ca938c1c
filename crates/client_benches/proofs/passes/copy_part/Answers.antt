use Rattle.std.proofs.Common.{length}
use Rattle.client_benches.proofs.PartLemmas.{mix-alone}
use Rattle.client_benches.proofs.passes.copy_part.Goals as goal

pub returns-clause-mixed : goal.returns-clause-mixed
returns-clause-mixed c = mix-alone (length c.args.out.now) c.copy_any.new.out c.args.part.now c.copy_any.ensures.length c.copy_any.ensures.samples c.see_samples.ensures
