use Rattle.session_graph.proofs.ExactLemmas.{either-one, one-refusal, one-text}
use Rattle.session_graph.proofs.laws.files_have_one_answer.Goals as goal

pub returns-clause-refusal : goal.returns-clause-refusal
returns-clause-refusal c = one-refusal

pub returns-clause-either : goal.returns-clause-either
returns-clause-either c = either-one

pub returns-clause-text : goal.returns-clause-text
returns-clause-text c = one-text
