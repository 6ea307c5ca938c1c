use Rattle.std.proofs.Common.{[], ◌∷◌, ◌∙◌, length, ap, arith}
use Rattle.std.proofs.lemmas.Grind.{common_steps}
use Rattle.port_mixer.specs.Sums.{Mix, all_added}
use Rattle.port_mixer.proofs.SumLemmas.{sums_of-all_added}
use Rattle.port_mixer.proofs.mixing.Mixer.add_four.Goals as goal

pub returns-clause-added : goal.returns-clause-added
returns-clause-added c = grind (arith, common_steps)

pub returns-clause-parts : goal.returns-clause-parts
returns-clause-parts c parts h =
    let more = c.args.one.now ∷ c.args.two.now ∷ c.args.three.now ∷ c.args.four.now ∷ [] in
    ap (λ (m : Mix). m.sums) (returns-clause-added c) ∙ ap (λ sums. all_added sums more) h ∙ sums_of-all_added (length c.args.one.now) parts more
