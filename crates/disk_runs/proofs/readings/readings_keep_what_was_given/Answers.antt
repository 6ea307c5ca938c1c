use Rattle.disk_runs.proofs.PartLemmas.{IsFor-tried, KeepsAny-tried}
use Rattle.disk_runs.proofs.readings.readings_keep_what_was_given.Goals as goal

pub returns-clause-own : goal.returns-clause-own
returns-clause-own c most session after given tried = IsFor-tried most session after tried given

pub returns-clause-keeps : goal.returns-clause-keeps
returns-clause-keeps c most session after given one tried = KeepsAny-tried most session after tried one c.a_meeting_changes_nothing.ensures.fits c.a_meeting_changes_nothing.ensures.keeps given
