use Rattle.std.proofs.Common.{◌∙◌, ap, length, arith}
use Rattle.activation.specs.session_model.specs.Samples.{mix}
use Rattle.client_benches.proofs.GatherLemmas.{eight-of}
use Rattle.client_benches.proofs.gathering.Few.mix.Goals as goal

pub returns-in-len8 : goal.returns-in-len8
returns-in-len8 c = c.mix_eight.ensures
    ∙ ap (mix (length c.args.out.now)) (eight-of (λ part. part.now) c.parts.result.now _ (omega (arith, c.in-len8.len_at_least, c.in-len8.len_below)) ∙ c.parts.ensures.parts)
