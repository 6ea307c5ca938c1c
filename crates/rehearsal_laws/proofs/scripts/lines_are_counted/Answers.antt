use Rattle.rehearsal_laws.proofs.ScriptLemmas.{counts, cycles}
use Rattle.rehearsal_laws.proofs.scripts.lines_are_counted.Goals as goal

pub returns-clause-lines : goal.returns-clause-lines
returns-clause-lines c = counts

pub returns-clause-cycles : goal.returns-clause-cycles
returns-clause-cycles c = cycles
