use Rattle.session_graph.proofs.ExactLemmas.{asking-one}
use Rattle.session_graph.proofs.laws.words_ask_for_one_graph.Goals as goal

pub returns : goal.returns
returns c = asking-one
