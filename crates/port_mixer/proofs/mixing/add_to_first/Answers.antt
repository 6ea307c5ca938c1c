use Rattle.std.proofs.Common.{◌≡◌, ◌+◌, length, sym, subst, arith}
use Rattle.std.proofs.lemmas.List.{length-take-le}
use Rattle.session_laws.specs.session_model.specs.Samples.{sample}
use Rattle.port_mixer.specs.Sums.{IsSumOf}
use Rattle.port_mixer.proofs.SumLemmas.{IsSumOf-added, front, front-added}
use Rattle.port_mixer.proofs.mixing.add_to_first.Goals as goal

pub returns-clause-added : goal.returns-clause-added
returns-clause-added c =
    front-added c.args.frames c.args.sums.now c.add_into.new.sum c.args.part.now _ (omega (arith, length-take-le c.args.frames c.args.sums.now c.requires.within, c.add_into.auto.sum)) c.requires.within c.add_into.ensures

pub returns-clause-bound : goal.returns-clause-bound
returns-clause-bound c n h k =
    let lengths : length c.add_into.new.sum ≡ c.args.frames = omega (arith, length-take-le c.args.frames c.args.sums.now c.requires.within, c.add_into.auto.sum) in
    subst (λ sums. IsSumOf (n + 1) (sample sums k)) (sym (front c.args.frames c.add_into.new.sum _ lengths))
    (subst (λ x. IsSumOf (n + 1) x) (sym (c.add_into.ensures k)) (IsSumOf-added n _ _ (h k) (c.see_samples.ensures k)))
