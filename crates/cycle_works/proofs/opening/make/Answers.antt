use Rattle.std.proofs.lemmas.Result.{MatchResult-from_err}
use Rattle.cycle_works.proofs.opening.make.Goals as goal

pub returns-in_err-stage : goal.returns-in_err-stage
returns-in_err-stage g c = MatchResult-from_err c.from_residual.result _ _ c.from_residual.ensures.0 (λ _. tt)

pub returns-in_err-outfit : goal.returns-in_err-outfit
returns-in_err-outfit g c = MatchResult-from_err c.from_residual-in_err-outfit.result _ _ c.from_residual-in_err-outfit.ensures.0 (λ _. tt)

pub returns : goal.returns
returns g c = record { stage = c.in_ok-stage.ensures; outfit = c.in_ok-outfit.ensures }
