use Rattle.task_laws.proofs.EnoughLemmas.{free-bench, opened-few}
use Rattle.task_laws.proofs.scripts.benches_are_enough.Goals as goal

pub returns-clause-count : goal.returns-clause-count
returns-clause-count c = opened-few

pub returns-clause-free : goal.returns-clause-free
returns-clause-free c = free-bench
