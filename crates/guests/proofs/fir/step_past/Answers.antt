use Rattle.std.proofs.Common.{◌∙◌, arith, rules}
use Rattle.std.specs.Int.{w32}
use Rattle.std.specs.Prelude.{FitsSigned}
use Rattle.std.proofs.lemmas.Int.{to_z-of_z}
use Rattle.guests.proofs.FilterLemmas.{stepped}
use Rattle.guests.proofs.fir.step_past.Goals as goal

pub loop-j-preserved : goal.loop-j-preserved
loop-j-preserved c =
    let fits : FitsSigned w32 c.sample_behind.result = search rules in
    stepped c.loop-j.past c.args.past.now c.args.x.now c.args.period c.loop-j.j _ (omega (arith, c.loop-j-test.true, c.loop-j.invariant.size)) c.loop-j.invariant (to_z-of_z w32 c.sample_behind.result fits ∙ c.sample_behind.ensures)
