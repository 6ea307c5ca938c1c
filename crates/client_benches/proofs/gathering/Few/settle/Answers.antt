use Rattle.std.proofs.Common.{◌∙◌, length, sym, ap, arith}
use Rattle.activation.specs.session_model.specs.Samples.{mix}
use Rattle.client_benches.proofs.GatherLemmas.{gathered-few}
use Rattle.client_benches.proofs.gathering.Few.settle.Goals as goal

pub returns-then-parts-eq0-clause-mixed : goal.returns-then-parts-eq0-clause-mixed
returns-then-parts-eq0-clause-mixed c parts gathered =
    c.mix.ensures ∙ ap (mix (length c.args.out.now)) (sym (gathered-few (length c.args.out.now) c.args.mixer.now c.args.self.now parts (omega (arith, c.parts.ensures, c.if-parts-eq0.true)) gathered))
