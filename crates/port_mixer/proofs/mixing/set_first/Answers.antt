use Rattle.std.proofs.Common.{sym, ◌∙◌, subst, arith}
use Rattle.std.proofs.lemmas.List.{length-take-le}
use Rattle.session_laws.specs.session_model.specs.Samples.{sample}
use Rattle.port_mixer.specs.Sums.{IsSumOf}
use Rattle.port_mixer.proofs.SumLemmas.{IsSumOf-alone, front}
use Rattle.port_mixer.proofs.mixing.set_first.Goals as goal

pub returns-clause-set : goal.returns-clause-set
returns-clause-set c =
    front c.args.frames c.set_to.new.sum _ (omega (arith, length-take-le c.args.frames c.args.sums.now c.requires.within, c.set_to.auto.sum)) ∙ c.set_to.ensures

pub returns-clause-bound : goal.returns-clause-bound
returns-clause-bound c k =
    subst (λ sums. IsSumOf 1 (sample sums k)) (sym (returns-clause-set c)) (IsSumOf-alone _ (c.see_samples.ensures k))
