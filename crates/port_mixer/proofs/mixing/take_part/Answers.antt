use Rattle.std.proofs.Common.{◌≡◌, ℕ, sym, ◌∙◌, ap, arith}
use Rattle.port_mixer.specs.Sums.{added}
use Rattle.port_mixer.specs.Insides.{sums_in}
use Rattle.port_mixer.proofs.SumLemmas.{added-first}
use Rattle.port_mixer.proofs.mixing.take_part.Goals as goal

pub returns-then-parts-eq0-clause-added : goal.returns-then-parts-eq0-clause-added
returns-then-parts-eq0-clause-added c =
    let none : c.args.parts ≡ 0 = omega (arith, c.if-parts-eq0.true) in
    c.set_first.ensures.set ∙ added-first c.args.frames c.args.part.now c.requires.frames ∙ ap (λ (n : ℕ). added (sums_in n c.args.frames c.args.sums.now) c.args.part.now) (sym none)
