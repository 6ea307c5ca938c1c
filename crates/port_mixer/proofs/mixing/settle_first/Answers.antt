use Rattle.std.proofs.Common.{◌≡◌, ℕ, sym, ◌∙◌, ap, map, arith}
use Rattle.std.proofs.lemmas.Grind.{common_steps}
use Rattle.session_laws.specs.session_model.specs.Samples.{clamp}
use Rattle.port_mixer.specs.Insides.{sums_in}
use Rattle.port_mixer.proofs.SumLemmas.{clamped_silence, silence-is}
use Rattle.port_mixer.proofs.mixing.settle_first.Goals as goal

pub returns-then-parts-eq0 : goal.returns-then-parts-eq0
returns-then-parts-eq0 c =
    let none : c.args.parts ≡ 0 = omega (arith, c.if-parts-eq0.true) in
    silence-is c.args.frames c.fill.new.self (grind (arith, common_steps)) (λ k h. grind (arith, common_steps))
    ∙ clamped_silence c.args.frames
    ∙ ap (λ (n : ℕ). map clamp (sums_in n c.args.frames c.args.sums.now)) (sym none)
