use Rattle.task_laws.proofs.LinkLemmas.{few-links, few-plan}
use Rattle.task_laws.proofs.plans.links_are_few.Goals as goal

pub returns-clause-links : goal.returns-clause-links
returns-clause-links c = few-links

pub returns-clause-plans : goal.returns-clause-plans
returns-clause-plans c = few-plan
