use Rattle.std.proofs.Common.{rules, pos, arith, subst, List, ℤ}
use Rattle.std.specs.Prelude.{All}
use Rattle.std.specs.Int.{w32}
use Rattle.std.specs.Int.RustNames.{FitsSigned}
use Rattle.std.proofs.lemmas.List.{take_all}
use Rattle.std.proofs.lemmas.List.Elements.{All-more}
use Rattle.wave_laws.proofs.waves.fits.Goals as goal

pub loop-sample-preserved : goal.loop-sample-preserved
loop-sample-preserved c =
    All-more (FitsSigned w32) c.args.samples.now c.loop-sample.sample-index (pos 0) (omega arith) c.loop-sample.invariant (search rules)

pub returns : goal.returns
returns c =
    subst (λ (read : List ℤ). All (FitsSigned w32) read) (take_all c.loop-sample.sample-index c.args.samples.now c.loop-sample-test.false) c.loop-sample.invariant
