use Rattle.grammar_laws.proofs.GrammarText.{printed-again}
use Rattle.grammar_laws.proofs.grammar.printed_again.Goals as goal

pub returns : goal.returns
returns c = printed-again
