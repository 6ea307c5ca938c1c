use Rattle.client_benches.proofs.ScoreLemmas.{after-scores, gives-scores}
use Rattle.client_benches.proofs.laws.plays_by_all_scores.Goals as goal

pub returns-clause-after : goal.returns-clause-after
returns-clause-after c sound scores kept given fits = after-scores sound scores kept given fits

pub returns-clause-gives : goal.returns-clause-gives
returns-clause-gives c sound scores kept given place fits = gives-scores sound scores kept given place fits
