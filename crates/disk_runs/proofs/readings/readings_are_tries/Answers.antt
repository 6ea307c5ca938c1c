use Rattle.disk_runs.proofs.StepLemmas.{tried-read, tried-told}
use Rattle.disk_runs.proofs.readings.readings_are_tries.Goals as goal

pub returns-clause-read : goal.returns-clause-read
returns-clause-read c = tried-read

pub returns-clause-told : goal.returns-clause-told
returns-clause-told c = tried-told
