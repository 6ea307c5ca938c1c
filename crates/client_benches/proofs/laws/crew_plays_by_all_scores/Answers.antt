use Rattle.client_benches.proofs.ScoreLemmas.{IsSequential-scores, sequential-scores}
use Rattle.client_benches.proofs.laws.crew_plays_by_all_scores.Goals as goal

pub returns-clause-benches : goal.returns-clause-benches
returns-clause-benches c sound scores links before fits n = sequential-scores sound scores links before fits n

pub returns-clause-machine : goal.returns-clause-machine
returns-clause-machine c sound scores links before now machine values fits sequential_now = IsSequential-scores sound scores links before fits machine now values sequential_now
