use Rattle.std.proofs.Common.{◌∙◌, ap, length, arith}
use Rattle.std.proofs.lemmas.Grind.{common_steps}
use Rattle.port_mixer.specs.Sums.{Mix, added}
use Rattle.port_mixer.proofs.SumLemmas.{sums_of_added}
use Rattle.port_mixer.proofs.mixing.Mixer.add.Goals as goal

pub returns-clause-added : goal.returns-clause-added
returns-clause-added c = grind (arith, common_steps)

pub returns-clause-parts : goal.returns-clause-parts
returns-clause-parts c parts h =
    ap (λ (m : Mix). m.sums) (returns-clause-added c) ∙ ap (λ sums. added sums c.args.part.now) h ∙ sums_of_added (length c.args.part.now) parts c.args.part.now
