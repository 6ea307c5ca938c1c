use Rattle.std.proofs.Common.{map, ◌∙◌}
use Rattle.std.proofs.lemmas.Result.{MatchResult-from_err}
use Rattle.cycle_works.proofs.OpeningLemmas.{plan-staged}
use Rattle.cycle_works.proofs.opening.make_stage.Goals as goal

pub returns-in_err-opening : goal.returns-in_err-opening
returns-in_err-opening g c = MatchResult-from_err c.from_residual.result _ _ c.from_residual.ensures.0 (λ _. tt)

pub returns-in_err-kinds : goal.returns-in_err-kinds
returns-in_err-kinds g c = MatchResult-from_err c.from_residual-in_err-kinds.result _ _ c.from_residual-in_err-kinds.ensures.0 (λ _. tt)

pub returns : goal.returns
returns g c =
    plan-staged c.args.script.now c.as_slice.result.now (map g.G.Guest.score c.args.guests.items) c.greatest_period.result c.in_ok-opening.opening (c.as_slice.ensures.value ∙ c.in_ok-kinds.ensures) c.greatest_period.ensures.greatest c.in_ok-opening.ensures c.new.result
    c.new.ensures.benches c.new.ensures.owners c.new.ensures.room c.new.ensures.plan c.new.ensures.stands
