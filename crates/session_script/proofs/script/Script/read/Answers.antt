use Rattle.script_text.specs.grammar_laws.proofs.GrammarLaws.{spelled}
use Rattle.session_script.proofs.WholeLemmas.{lawful, no-script, only-script}
use Rattle.session_script.proofs.script.Script.read.Goals as goal

pub invariant_of-result : goal.invariant_of-result
invariant_of-result c = lawful c.args.bytes.now _ c.in-Ok.ensures

pub returns-in-Ok-clause-script : goal.returns-in-Ok-clause-script
returns-in-Ok-clause-script c = spelled c.args.bytes.now _ c.in-Ok.ensures

pub returns-in-Ok-clause-only : goal.returns-in-Ok-clause-only
returns-in-Ok-clause-only c = λ other s. only-script c.args.bytes.now _ other c.in-Ok.ensures s

pub returns-in-Err-clause-none : goal.returns-in-Err-clause-none
returns-in-Err-clause-none c = λ not other s. no-script c.args.bytes.now c.in-Err.fault other (c.in-Err.ensures not) s
