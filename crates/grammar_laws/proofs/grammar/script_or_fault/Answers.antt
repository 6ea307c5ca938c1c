use Rattle.grammar_laws.proofs.GrammarLaws.{script_or_fault}
use Rattle.grammar_laws.proofs.grammar.script_or_fault.Goals as goal

pub returns : goal.returns
returns c = script_or_fault
