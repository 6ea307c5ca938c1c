use Rattle.std.proofs.lemmas.Result.{MatchResult-from_err}
use Rattle.cycle_works.proofs.opening.make_lists.Goals as goal

pub returns-in_err-numbers : goal.returns-in_err-numbers
returns-in_err-numbers c = MatchResult-from_err c.from_residual.result _ _ c.from_residual.ensures.0 (λ _. tt)

pub returns-in_err-moments : goal.returns-in_err-moments
returns-in_err-moments c = MatchResult-from_err c.from_residual-in_err-moments.result _ _ c.from_residual-in_err-moments.ensures.0 (λ _. tt)

pub returns : goal.returns
returns c = record { numbers = c.in_ok-numbers.ensures; moments = c.in_ok-moments.ensures }
