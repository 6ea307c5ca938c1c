use Rattle.grammar_laws.proofs.GrammarText.{printed}
use Rattle.grammar_laws.proofs.grammar.printed_script.Goals as goal

pub returns : goal.returns
returns c = printed
