use Rattle.rehearsal_model.specs.Rehearsals.{rehearsal}
use Rattle.rehearsal_laws.proofs.ScriptLemmas.{script}
use Rattle.rehearsal_laws.proofs.scripts.rehearsal_is_a_script.Goals as goal

pub returns-clause-script : goal.returns-clause-script
returns-clause-script c = script

pub returns-clause-spelled : goal.returns-clause-spelled
returns-clause-spelled c n = c.printed_script.ensures (rehearsal n).script (script n)
